-- Kinds that are raised several times, and what a known kind does.
use Rattle.std.specs.Prelude.{◌≡◌, ℕ, zero, suc, List, ℤ, Result}
use Rattle.std.proofs.Common.{sym, subst}
use Rattle.kinds.specs.declared.refusal.Refusal.{Refusal}
use Rattle.kinds.specs.Roughness.{RoughnessMeaning, RoughnessLaws, Forwards, Backs}
use Rattle.roughness.specs.Kept.{raised_kept}
use Rattle.known.specs.Known.{raised_times}

pub raised_times_kept : (n : ℕ) (k : RoughnessMeaning) → RoughnessLaws k → RoughnessLaws (raised_times n k)
raised_times_kept zero k law = law
raised_times_kept (suc n) k law = raised_kept (raised_times n k) (raised_times_kept n k law)

-- kinds that mean the same do the same
module _ {a b : RoughnessMeaning} (same : a ≡ b) (ts xs before after : List ℤ) (r : Result (Unit {0}) Refusal) where
  pub forwards_as : Forwards b ts xs before after r → Forwards a ts xs before after r
  forwards_as f = subst (λ (k : RoughnessMeaning). Forwards k ts xs before after r) (sym same) f

  pub backs_as : Backs b ts xs before after r → Backs a ts xs before after r
  backs_as f = subst (λ (k : RoughnessMeaning). Backs k ts xs before after r) (sym same) f

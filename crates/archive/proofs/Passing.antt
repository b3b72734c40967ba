-- Checks that pass or stop.
--     refused             what an answer says of its checks
--     in_turn_parts       checks in their order that all pass; `in_turn_from` goes back
use Rattle.std.proofs.Common.{◌≡◌, Bool, true, false, Some, None, Err, Option, refl}
use Rattle.kinds.specs.declared.refusal.Cause.{Cause}
use Rattle.archive.specs.Writing.{in_turn, answered}

pub refused : {X : Type 0} (checks : Option Cause) (x : X) (r : Cause) → Err r ≡ answered checks x → checks ≡ Some r
refused None x r e = cc
refused (Some s) x r e = cc

pub in_turn_parts : (a b c : Bool) → in_turn a b c ≡ None → (a ≡ true) × (b ≡ true) × (c ≡ true)
in_turn_parts true true true e = (refl, refl, refl)
in_turn_parts true true false e = (refl, refl, cc)
in_turn_parts true false c e = (refl, cc, cc)
in_turn_parts false b c e = (cc, cc, cc)

pub in_turn_from : (a b c : Bool) → a ≡ true → b ≡ true → c ≡ true → in_turn a b c ≡ None
in_turn_from a b c p q r = rw (p, q, r)

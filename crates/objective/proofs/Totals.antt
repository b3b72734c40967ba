-- The running sums of cost and floor, and the sizes of their terms.
use Rattle.std.proofs.Common.{◌≡◌, ℕ, ◌+◌, ◌*◌, ◌<◌, ◌≤◌, true, List, length, get_or, drop, ℤ, pos, ◌+ℤ◌, ◌-ℤ◌, ◌*ℤ◌, nat_abs, ap, ◌∙◌, ap₂, arith, w64, to_z, of_z}
use borrow.Author.Differences.{ints}
use Rattle.std.proofs.lemmas.List.{drop_more, at_drop_all}
use Rattle.kinds.specs.declared.reading.Reading.{Reading}
use Rattle.kinds.specs.Figures.{dot}
use Rattle.kinds.specs.Penalty.{PenaltyMeaning, is_weight, is_residual}
use Rattle.kinds.proofs.Bits.{back64}
use Rattle.kinds.proofs.Ring.{linear, size_add_most}
use Rattle.objective.specs.Checks.{is_stiffness}
use Rattle.objective.specs.Objective.{misfit_cost, crudes}
use Rattle.objective.proofs.Noted.{blank}

-- one term more
pub misfit_more : (p : PenaltyMeaning) (xs : List Reading) (vs : List ℤ) (i : ℕ) → i < length xs → length vs ≡ length xs → misfit_cost p (drop i xs) (drop i vs) ≡ p.cost (nat_abs (get_or xs i blank).weight) (get_or vs i (pos 0) -ℤ (get_or xs i blank).crude) + misfit_cost p (drop (i + 1) xs) (drop (i + 1) vs)
misfit_more p xs vs i h e = ap₂ (misfit_cost p) (drop_more xs i blank h) (drop_more vs i (pos 0) (omega arith))

pub misfit_all : (p : PenaltyMeaning) (xs : List Reading) (vs : List ℤ) (i : ℕ) → length xs ≤ i → misfit_cost p (drop i xs) (drop i vs) ≡ 0
misfit_all p xs vs i h = at_drop_all (λ (l : List Reading). misfit_cost p l (drop i vs)) xs i h

pub floor_more : (cs : List ℤ) (xs : List Reading) (i : ℕ) → i < length xs → length cs ≡ length xs → dot (drop i cs) (crudes (drop i xs)) ≡ get_or cs i (pos 0) *ℤ (get_or xs i blank).crude +ℤ dot (drop (i + 1) cs) (crudes (drop (i + 1) xs))
floor_more cs xs i h e = ap₂ (λ (l : List ℤ) (m : List Reading). dot l (crudes m)) (drop_more cs i (pos 0) (omega arith)) (drop_more xs i blank h)

pub floor_all : (cs : List ℤ) (xs : List Reading) (i : ℕ) → length cs ≤ i → dot (drop i cs) (crudes (drop i xs)) ≡ pos 0
floor_all cs xs i h = at_drop_all (λ (l : List ℤ). dot l (crudes (drop i xs))) cs i h

pub stiffness_weighs : (h : ℤ) → is_stiffness h ≡ true → is_weight h ≡ true
stiffness_weighs h e = grind (arith, ints)

pub small_residual : (r : ℤ) → nat_abs r ≤ 40000000 → is_residual r ≡ true
small_residual r h = grind arith

-- a floor so far and one product more, as they are stored
pub floor_again : (s p t rest all : ℤ) (k : ℕ) → s +ℤ t ≡ all → nat_abs s ≤ 20000000000000000 * k → t ≡ p +ℤ rest → k < 240 → nat_abs p ≤ 20000000000000000 → (to_z w64 (of_z w64 (s +ℤ to_z w64 (of_z w64 p))) +ℤ rest ≡ all) × (nat_abs (to_z w64 (of_z w64 (s +ℤ to_z w64 (of_z w64 p)))) ≤ 20000000000000000 * (k + 1))
floor_again s p t rest all k e hs f hk hp =
    let most = size_add_most s p hs hp in
    let stored = ap (λ (z : ℤ). to_z w64 (of_z w64 (s +ℤ z))) (back64 p (omega arith)) ∙ back64 (s +ℤ p) (omega (arith, most)) in
    (omega (arith, linear, stored), rw stored (omega (arith, most)))

use Rattle.std.proofs.Common.{length, ℤ, Ok, Err, sym, ap, ap₂, ◌∙◌, w64, SFits, rules}
use Rattle.std.proofs.lemmas.Int.{to_z-of_z}
use Rattle.std.proofs.lemmas.Result.{err_from_is_err_and}
use Rattle.kinds.proofs.Bits.{from_bits}
use Rattle.kinds.proofs.Passing.{passed}
use Rattle.objective.specs.Promises.{WeighsMultipliers}
use Rattle.weigh.specs.Answered.{multipliers, kinds_of, noted, multipliers_no}
use Rattle.weigh.specs.Firings.{with_floor}
use Rattle.weigh.proofs.Ways.{refused_said, passed_said, place_filled, told_value, law_of, columns_again, columns_long}
use Rattle.weigh.proofs.firing.Firing.multipliers.Goals as goal
use Rattle.weigh.proofs.firing.Firing.multipliers.Goals.{After-columns, After-from_residual}

told_no : (c : After-from_residual) → WeighsMultipliers (kinds_of c.args.self.now) c.args.self.now.given.stiffness (noted c.args.self.now) c.args.denominator c.args.multipliers.now c.args.place.now c.floor.new.place (Err c.in_err-floor.field-0.0)
told_no c = from_bits (λ (d : ℤ). WeighsMultipliers (kinds_of c.args.self.now) c.args.self.now.given.stiffness (noted c.args.self.now) d c.args.multipliers.now c.args.place.now c.floor.new.place (Err c.in_err-floor.field-0.0)) c.args.denominator c.ranges.denominator c.in_err-floor.ensures

told_floor : (c : After-columns) → WeighsMultipliers (kinds_of c.args.self.now) c.args.self.now.given.stiffness (noted c.args.self.now) c.args.denominator c.args.multipliers.now c.args.place.now c.floor.new.place (Ok c.in_ok-floor.floor)
told_floor c = from_bits (λ (d : ℤ). WeighsMultipliers (kinds_of c.args.self.now) c.args.self.now.given.stiffness (noted c.args.self.now) d c.args.multipliers.now c.args.place.now c.floor.new.place (Ok c.in_ok-floor.floor)) c.args.denominator c.ranges.denominator c.in_ok-floor.ensures

pub returns-in_err-floor-clause-answered : goal.returns-in_err-floor-clause-answered
returns-in_err-floor-clause-answered c =
    let checks = multipliers_no c.args.self.now c.args.denominator c.args.multipliers.now (length c.args.place.now) in
    let p = err_from_is_err_and c.from_residual.result c.from_residual.ensures.1 in
    rw (p.1, p.2) (refused_said checks _ c.in_err-floor.field-0.0 _ (told_no c).answered)

pub slice_bounds-result-end : goal.slice_bounds-result-end
slice_bounds-result-end c =
    let f = c.args.self.now in
    let checks = multipliers_no f c.args.denominator c.args.multipliers.now (length c.args.place.now) in
    let w = told_floor c in
    let fine = passed checks _ _ w.answered in
    let law = law_of f.given.kinds.roughness in
    let lawful = (w.lawful fine).1 in
    let again = columns_again (kinds_of f) law _ _ (noted f) c.args.multipliers.now c.args.place.now c.floor.new.place c.columns.result lawful (place_filled checks _ _ _ fine w.place) c.columns.ensures in
    c.columns.ensures ∙ sym (ap length again ∙ columns_long (kinds_of f) law _ _ (noted f) c.args.multipliers.now lawful)

pub returns-clause-answered : goal.returns-clause-answered
returns-clause-answered c =
    let f = c.args.self.now in
    let checks = multipliers_no f c.args.denominator c.args.multipliers.now (length c.args.place.now) in
    let w = told_floor c in
    let fine = passed checks _ _ w.answered in
    let again = columns_again (kinds_of f) (law_of f.given.kinds.roughness) _ _ (noted f) c.args.multipliers.now c.args.place.now c.floor.new.place c.columns.result (w.lawful fine).1 (place_filled checks _ _ _ fine w.place) c.columns.ensures in
    let fits : SFits w64 c.in_ok-floor.floor = search rules in
    ap Ok (ap₂ multipliers (to_z-of_z w64 c.in_ok-floor.floor fits ∙ told_value checks c.in_ok-floor.floor _ w.answered) again) ∙ passed_said checks _ c.in_ok-floor.floor _ w.answered

pub returns-clause-ok : goal.returns-clause-ok
returns-clause-ok c =
    let f = c.args.self.now in
    let checks = multipliers_no f c.args.denominator c.args.multipliers.now (length c.args.place.now) in
    let w = told_floor c in
    let fits : SFits w64 c.in_ok-floor.floor = search rules in
    let value = to_z-of_z w64 c.in_ok-floor.floor fits ∙ told_value checks c.in_ok-floor.floor _ w.answered in
    λ i. with_floor f (value i) (to_z-of_z w64 c.args.denominator c.ranges.denominator i)

use Rattle.std.proofs.Common.{◌*ℤ◌, arith}
use Rattle.std.proofs.lemmas.Int.{to_z-of_z}
use Rattle.kinds.proofs.Bits.{fits64}
use Rattle.kinds.proofs.Ring.{size_mul_most}
use Rattle.objective.proofs.multipliers.product_of.Goals as goal

pub returns : goal.returns
returns c =
    let fc = c.ranges.column in
    let fz = c.ranges.crude in
    let most = size_mul_most c.args.column c.args.crude c.requires.small c.requires.crudes in
    let fp = fits64 (c.args.column *ℤ c.args.crude) (omega (arith, most)) in
    record { value = simp to_z-of_z; bound = simp to_z-of_z most }

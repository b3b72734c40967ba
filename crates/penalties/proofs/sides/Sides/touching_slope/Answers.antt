use Rattle.std.proofs.Common.{◌≡◌, pos, arith}
use borrow.Author.Differences.{ints}
use Rattle.std.proofs.lemmas.Int.{to_z-of_z}
use Rattle.penalties.proofs.sides.Sides.touching_slope.Goals as goal

pub returns-in-Equal : goal.returns-in-Equal
returns-in-Equal c = let zero : c.args.residual ≡ pos 0 = grind (arith, ints, to_z-of_z) in rw zero (grind (arith, to_z-of_z))

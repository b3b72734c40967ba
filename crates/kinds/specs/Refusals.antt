-- The number under which each cause of a refusal is known.
--     number_of       a cause's number
use Rattle.std.specs.Prelude.{ℕ}
use Rattle.kinds.specs.declared.refusal.Cause.{Cause}
use Rattle.kinds.specs.declared.refusal.Cause.TheVariants.{Figure, Minute, Place, Setting, Length, Value, Denominator, Multiplier, Column, Room, Full, Steep, Short, Gap, Line, Frame, Mark, Stated}

abbrev pub number_of : Cause → ℕ
number_of Figure = 1
number_of Minute = 2
number_of Place = 3
number_of Setting = 4
number_of Length = 5
number_of Value = 6
number_of Denominator = 7
number_of Multiplier = 8
number_of Column = 9
number_of Room = 10
number_of Full = 11
number_of Steep = 12
number_of Short = 13
number_of Gap = 16
number_of Line = 17
number_of Frame = 18
number_of Mark = 19
number_of Stated = 20

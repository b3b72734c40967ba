-- Readings one after the other.
--     last_minute     the minute of the last of some readings, if there is one
--     next_no         the checks of a reading that comes after these
use Rattle.std.specs.Prelude.{◌-◌, List, length, ℤ, Option, slice_get}
use Rattle.std.specs.Option.{option_map}
use Rattle.kinds.specs.declared.reading.Reading.{Reading}
use Rattle.kinds.specs.declared.refusal.Refusal.{Refusal}
use Rattle.objective.specs.Checks.{reading_no}

abbrev pub last_minute : List Reading → Option ℤ
last_minute xs = option_map (λ x. x.minute) (slice_get xs (length xs - 1))

abbrev pub next_no : List Reading → Reading → Option Refusal
next_no xs x = reading_no (length xs) 0 (last_minute xs) x

use Rattle.std.proofs.Common.{◌≡◌, drop}
use Rattle.objective.specs.Checks.{readings_no_from, readings_no}
use Rattle.objective.proofs.checks.check_readings.Given as goal

abbrev pub invariant-loop-place : goal.invariant-loop-place
invariant-loop-place l = readings_no_from l.place l.last (drop l.place l.readings) ≡ readings_no l.readings

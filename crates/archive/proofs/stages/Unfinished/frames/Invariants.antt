use Rattle.std.proofs.Common.{take}
use Rattle.archive.specs.Writing.{Lists}
use Rattle.archive.proofs.stages.Unfinished.frames.Given as goal

abbrev pub invariant-loop-figure : goal.invariant-loop-figure
invariant-loop-figure g l =
    Lists g.S.ListStage.text g.S.ListStage.WIDTH (take l.figure-index l.figures) l.figure-index l.initial.file.progress l.file.progress l.initial.place l.place

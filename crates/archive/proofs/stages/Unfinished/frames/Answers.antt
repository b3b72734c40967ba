use Rattle.archive.proofs.Listing.{lists_next}
use Rattle.archive.proofs.stages.Unfinished.frames.Goals as goal

pub loop-figure-preserved : goal.loop-figure-preserved
loop-figure-preserved g c =
    lists_next g.S.ListStage.text g.S.ListStage.test c.args.figures.now c.loop-figure.file c.loop-figure.figure-index c.loop-figure.invariant c.figure-item.result c.figure-item.result _ c.frame.new.place c.frame.result c.loop-figure-test.true c.figure-item.is c.frame.ensures c.unwrap-file.result c.unwrap-file.ensures

use Rattle.std.proofs.Common.{◌^◌, ◌<◌, length, sym, subst, w64, SFits, to_z, of_z, rules}
use Rattle.std.proofs.lemmas.Int.{to_z-of_z}
use Rattle.archive.specs.File.{file}
use Rattle.archive.specs.Writing.{Puts, gathered}
use Rattle.archive.proofs.Listing.{led_puts}
use Rattle.archive.proofs.Whole.{head_puts, end_puts, file_joined, writes_whole}
use Rattle.archive.proofs.figures.Figures.write.Goals as goal

pub returns : goal.returns
returns c =
    let g = gathered c.args.self.now in
    let cost : g.cost < 2 ^ 64 = search rules in
    let floor : SFits w64 g.floor = search rules in
    let head = head_puts g.head (length g.multipliers) c.args.place.now c.head.new.place c.new-opened.result c.head.result c.new-opened.ensures c.head.ensures c.unwrap-at_readings.result c.unwrap-at_readings.ensures in
    let readings = led_puts c.frames-readings_end.result c.begin_entries.result c.begin_entries.ensures c.unwrap-at_entries.result c.unwrap-at_entries.ensures c.frames-readings_end.ensures.puts in
    let entries = led_puts c.frames-entries_end.result c.begin_multipliers.result c.begin_multipliers.ensures c.unwrap-at_multipliers.result c.unwrap-at_multipliers.ensures c.frames-entries_end.ensures.puts in
    let end = end_puts g.cost (to_z w64 (of_z w64 g.floor)) g.floor c.frames-multipliers_end.new.place c.end.new.place c.frames-multipliers_end.result c.end.result c.end.ensures c.unwrap-ended.result c.unwrap-ended.ensures (to_z-of_z w64 g.floor floor) in
    let whole = file_joined g head readings entries c.frames-multipliers_end.ensures.puts end in
    writes_whole g cost floor c.args.place.now c.end.new.place c.bytes.result c.requires (subst (λ j. Puts c.args.place.now c.end.new.place 0 j (file g)) (sym c.bytes.ensures) whole)

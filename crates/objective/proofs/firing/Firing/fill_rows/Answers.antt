use Rattle.std.proofs.Common.{length, None, sym, ap, ◌∙◌, arith}
use Rattle.objective.proofs.Duality.{length_minutes}
use Rattle.objective.proofs.Mapping.{Mappable, cut_fits, forwarded}
use Rattle.objective.proofs.Noted.{few}
use Rattle.objective.proofs.firing.Firing.fill_rows.Goals as goal

pub minutes_of-minutes-requires : goal.minutes_of-minutes-requires
minutes_of-minutes-requires g c = omega (arith, few 0 None c.args.self.now.readings.now c.args.self.now.noted (omega arith))

pub slice_bounds-minutes-end : goal.slice_bounds-minutes-end
slice_bounds-minutes-end g c = cut_fits c.args.self.now.readings.now c.minutes_of-minutes.result c.minutes_of-minutes.ensures

pub slice_bounds-forward-end : goal.slice_bounds-forward-end
slice_bounds-forward-end g c = sym (ap length c.minutes_of-minutes.ensures ∙ length_minutes c.args.self.now.readings.now)

pub returns : goal.returns
returns g c =
    let self = c.args.self.now in
    let k = g.R.Roughness.meaning self.kinds.now.roughness in
    let xs = self.readings.now in
    let m : Mappable k xs = record { noted = self.noted; grows = self.grows; reaches = self.reaches } in
    let done = forwarded k xs m c.args.table.now (omega (arith, c.requires.small)) _ c.args.rows.now c.forward.new.rows c.forward.result c.minutes_of-minutes.ensures c.requires.long c.requires.room c.forward.ensures in
    record { value = done.0; place = done.1 }

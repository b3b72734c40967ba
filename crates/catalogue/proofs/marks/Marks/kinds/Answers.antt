use Rattle.std.proofs.Common.{refl}
use Rattle.catalogue.proofs.marks.Marks.kinds.Goals as goal

pub returns : goal.returns
returns c = record {
  roughness = c.in_ok-try_into.field-0;
  misfit = c.in_ok-try_into-2.field-0;
  bend = c.in_ok-try_into-3.field-0;
  are = refl;
  roughness_mark = c.in_ok-try_into.ensures;
  misfit_mark = c.in_ok-try_into-2.ensures;
  bend_mark = c.in_ok-try_into-3.ensures;
}

use Rattle.nv_core.proofs.invariant.ShapeLaws.{cells_keep_shapes}
use Rattle.nv_core.proofs.shape_laws.cells_keep_their_shapes.Goals as goal

pub returns : goal.returns
returns c = cells_keep_shapes

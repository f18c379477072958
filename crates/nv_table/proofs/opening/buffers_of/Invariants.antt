use Rattle.nv_table.specs.state.Keys.{sizes_of}
use Rattle.nv_table.proofs.state.BufferLaws.{AreSome}
use Rattle.nv_table.proofs.opening.buffers_of.Given as goal

abbrev pub invariant-loop-page : goal.invariant-loop-page
invariant-loop-page l = AreSome (sizes_of l.fn.layout) l._page l.buffers.items

abbrev pub invariant-loop-bare : goal.invariant-loop-bare
invariant-loop-bare l = AreSome (sizes_of l.fn.layout) l._bare l.buffers.items

use Rattle.std.proofs.Common.{refl, arith}
use Rattle.nv_table.specs.state.Keys.{sizes_of}
use Rattle.nv_table.proofs.state.BufferLaws.{one_more}
use Rattle.nv_table.proofs.opening.buffers_of.Goals as goal

pub loop-page-preserved : goal.loop-page-preserved
loop-page-preserved c = one_more (sizes_of c.args.layout) c.loop-page._page c.loop-page.buffers.items c.push.new.self.items _ c.loop-page.invariant c.in_ok-push.ensures.items (λ below. (omega (arith, c.in_ok-bytes.ensures.len), refl)) (λ behind. absurd (omega arith))

pub loop-bare-preserved : goal.loop-bare-preserved
loop-bare-preserved c = one_more (sizes_of c.args.layout) c.loop-bare._bare c.loop-bare.buffers.items c.push-in-loop-bare.new.self.items _ c.loop-bare.invariant c.in_ok-push-2.ensures.items (λ below. absurd (omega arith)) (λ behind. refl)

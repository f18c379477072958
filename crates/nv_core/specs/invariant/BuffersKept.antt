-- Buffers kept: none is made or lost.
use Rattle.std.specs.Prelude.{◌≡◌, ℕ}
use Rattle.nv_core.specs.state.Totals.{total}
use Rattle.nv_core.specs.state.Words.{Sizes, PAGE, page_total}
use Rattle.nv_core.specs.state.Values.{buffers_in}
use Rattle.nv_core.specs.steps.Order.{Values}

-- how many buffers the pages' cells keep, at home or out
abbrev pub buffer_count : Sizes → Values → ℕ
buffer_count sizes values = total (page_total sizes) (λ page. buffers_in (values (PAGE page)))

pub record BuffersKept (sizes : Sizes) (values : Values) : Type 0 where
  pub many : buffer_count sizes values ≡ sizes.buffers

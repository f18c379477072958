-- Keys: what the table is told once, when it is made.
use Rattle.std.specs.Prelude.{map}
use Rattle.nv_core.specs.state.Words.{Sizes}
use Rattle.nv_core.specs.state.Values.{Value}
use Rattle.nv_table.specs.state.Opened.{Opened}
use Rattle.nv_table.specs.declared.layout.Layout.{Layout}
use Rattle.nv_table.specs.declared.rule.Opening.{Opening}

-- the sizes that a layout has
abbrev pub sizes_of : Layout → Sizes
sizes_of layout = record { page = layout.page; files = layout.files; pages = layout.pages; entries = layout.entries; buffers = layout.buffers }

-- how a mount was opened, by what its slots show
abbrev pub opened_of : {S : Type 0} → (S → Value) → Opening S → Opened
opened_of shown opening = record {
  sizes = sizes_of opening.layout;
  next = opening.next;
  lengths = opening.lengths.items;
  slots = map shown opening.slots.items;
}

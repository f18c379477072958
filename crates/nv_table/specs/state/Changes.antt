-- Changes: what a step makes of its word.
use Rattle.std.specs.Prelude.{ℕ, ◌+◌, ◌-◌, ◌%◌, ◌^◌, ◌==◌}
use prog.Atomic.{either}
use Rattle.nv_table.specs.declared.acting.Change.{Change}
use Rattle.nv_table.specs.declared.acting.Change.TheVariants.{Keep, Add, Subtract, Set, Exchange}

abbrev pub changed : Change → (found : ℕ) → ℕ
changed Keep found = found
changed (Add count) found = (found + count) % 2 ^ 64
changed (Subtract count) found = (found + (2 ^ 64 - count)) % 2 ^ 64
changed (Set value) found = value
changed (Exchange old new) found = either (found == old) new found

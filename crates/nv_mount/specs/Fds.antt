-- Descriptors.
use Rattle.std.specs.Prelude.{ℕ}

-- how many there may be
abbrev pub max_fds : ℕ
max_fds = 64

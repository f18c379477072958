-- Streams in memory, some of whose calls fail by plan.
use Rattle.std.specs.Prelude.{ℕ, ◌-◌, ◌^◌, ◌==◌, ◌||◌, min, Bool, List, [], ◌++◌, length, take, drop, Option, Some}
use Rattle.std.specs.List.{list_any}
use Rattle.nv_trace.specs.Streams.{counted}

-- which calls fail, by their numbers from 1; how many calls there were, and how many of them failed
pub record Planned : Type 0 where
  pub fails : List ℕ
  pub calls : ℕ
  pub faults : ℕ

abbrev pub fresh_plan : List ℕ → Planned
fresh_plan fails = record { fails = fails; calls = 0; faults = 0 }

-- whether the next call is to fail
abbrev pub is_next_to_fail : Planned → Bool
is_next_to_fail plan = list_any (λ number. number == counted plan.calls) plan.fails

-- the plan after one more call
abbrev pub after_call : Planned → Planned
after_call plan = record { fails = plan.fails; calls = counted plan.calls; faults = plan.faults }

-- the plan after one more fault
abbrev pub after_fault : Planned → Planned
after_fault plan = record { fails = plan.fails; calls = plan.calls; faults = counted plan.faults }

-- a source: the bytes that are left, the most that one read gives, and its plan
pub record SourceState : Type 0 where
  pub left : List ℕ
  pub most : ℕ
  pub plan : Planned

-- a source that no read has touched
abbrev pub fresh_source : (bytes fails : List ℕ) → SourceState
fresh_source bytes fails = record { left = bytes; most = 2 ^ 64 - 1; plan = fresh_plan fails }

abbrev pub source_left : SourceState → Option (List ℕ)
source_left source = Some source.left

abbrev pub source_faults : SourceState → ℕ
source_faults source = source.plan.faults

-- how many bytes a read gives into so much room
abbrev pub count_given : SourceState → ℕ → ℕ
count_given source room = min (min (length source.left) room) source.most

-- the source after a read that gave so many bytes
abbrev pub after_read : SourceState → ℕ → SourceState
after_read source count = record { left = drop count source.left; most = source.most; plan = after_call source.plan }

-- the source after a read that failed
abbrev pub after_failed_read : SourceState → SourceState
after_failed_read source = record { left = source.left; most = source.most; plan = after_fault (after_call source.plan) }

-- a sink: the bytes that were written, how many more fit, and its plan
pub record SinkState : Type 0 where
  pub written : List ℕ
  pub room : ℕ
  pub plan : Planned

-- a sink that no write has touched
abbrev pub fresh_sink : (room : ℕ) (fails : List ℕ) → SinkState
fresh_sink room fails = record { written = []; room = room; plan = fresh_plan fails }

abbrev pub sink_written : SinkState → Option (List ℕ)
sink_written sink = Some sink.written

abbrev pub sink_faults : SinkState → ℕ
sink_faults sink = sink.plan.faults

-- whether the next write fails: by plan, or since no byte fits
abbrev pub refuses_next : SinkState → Bool
refuses_next sink = is_next_to_fail sink.plan || sink.room == 0

-- how many of these bytes a write takes
abbrev pub count_taken : SinkState → List ℕ → ℕ
count_taken sink bytes = min (length bytes) sink.room

-- the sink after a write that took so many of these bytes
abbrev pub after_write : SinkState → List ℕ → ℕ → SinkState
after_write sink bytes count =
    record { written = sink.written ++ take count bytes; room = sink.room - count; plan = after_call sink.plan }

-- the sink after a write that failed
abbrev pub after_failed_write : SinkState → SinkState
after_failed_write sink = record { written = sink.written; room = sink.room; plan = after_fault (after_call sink.plan) }

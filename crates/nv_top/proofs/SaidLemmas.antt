-- What is said of what a command came to.
use Rattle.std.proofs.Common.{◌≡◌, ◌≢◌, ◌⊎◌, ◌≤◌, ℕ, List, [], ◌++◌, take, Option, Some, None, Ok, Err, inl, inr, refl, sym, ap, subst, ◌∙◌, arith}
use Rattle.std.proofs.lemmas.List.{append_assoc}
use Rattle.std.proofs.lemmas.Bool.{cases_eq}
use Rattle.std.specs.Prelude.{IsOk}
use Rattle.nv_plain.specs.Faults.{Rose}
use Rattle.nv_trace.specs.Streams.{Appends}
use Rattle.nv_trace.specs.declared.bad_line.BadLine.{BadLine as Bad}
use Rattle.nv_open.specs.declared.error.Refusal.{Refusal}
use Rattle.nv_top.specs.Endings.{AppendsFront}
use Rattle.nv_runner.specs.Histories.{PlacedCall}
use Rattle.nv_runner.specs.Reports.{history_lines}
use Rattle.nv_top.proofs.RanLemmas.{nothing_written}
use Rattle.nv_top.specs.Said.{Outcome, IsSaid, GoWith, HasShown, StatusesTellWhatCame, said_status}
use Rattle.nv_top.specs.declared.ending.Stop.{Stop}
use Rattle.nv_top.specs.declared.ending.Stop.TheVariants.{Usage, BadLine, InputLong, Read, Write, Device, Region, NoMemory, Turns}
use Rattle.nv_top.specs.declared.ending.TheConstants.{DONE, USAGE, BAD_INPUT, READ_FAULT, WRITE_FAULT, DEVICE_FAULT, NO_MEMORY, BAD_REGION, TURNS_USED}

-- as the sink's write tells it, of a command that has shown nothing before its end
pub said_by : (came : Outcome) (old new : Option (List ℕ)) (before now result status : ℕ) (text : List ℕ) → came ≢ Err Write → GoWith came status text
    → (result ≡ WRITE_FAULT → AppendsFront old new text) → (result ≢ WRITE_FAULT → (result ≡ status) × Appends old new text)
    → (result ≡ WRITE_FAULT → Rose before now) → (result ≢ WRITE_FAULT → now ≡ before) → IsSaid came [] old new before now result
said_by came old new before now result status text other go front said fault sound = elim (cases_eq result WRITE_FAULT) [
  | inl failed ↦ record { status = status; text = text; go = go; ends = inr (failed, inr (front failed), fault failed) }
  | inr well ↦ record { status = status; text = text; go = go; ends = inl (other, (said well).0, (said well).1, sound well) }
]

-- behind what was shown before
appends_behind : (old mid new : Option (List ℕ)) (first rest : List ℕ) → Appends old mid first → Appends mid new rest → Appends old new (first ++ rest)
appends_behind None mid new first rest before after = tt
appends_behind (Some bytes) mid new first rest before after =
    let is : new ≡ Some ((bytes ++ first) ++ rest) = subst (λ mid. Appends mid new rest) before after in
    is ∙ ap Some (append_assoc bytes first rest)

pub said_behind : (came : Outcome) (shown : List ℕ) (old mid new : Option (List ℕ)) (before then now result : ℕ) → came ≢ Err Write → Appends old mid shown → then ≡ before → IsSaid came [] mid new then now result → IsSaid came shown old new before now result
said_behind came shown old mid new before then now result other lines same said = record {
  status = said.status;
  text = said.text;
  go = said.go;
  ends = elim said.ends [
    | inl well ↦ inl (other, well.1, appends_behind old mid new shown said.text lines well.2, well.3 ∙ same)
    | inr failed ↦ inr (
      failed.0,
      elim failed.1 [
        | inl cut ↦ absurd (other cut.0)
        | inr front ↦ inr (front.0, appends_behind old mid new shown (take front.0 said.text) lines front.1)
      ],
      subst (λ before. Rose before now) same failed.2,
    )
  ];
}

-- where the sink's fault has ended it
said_cut : (shown : List ℕ) (old new : Option (List ℕ)) (before now result : ℕ) → AppendsFront old new shown → Rose before now → result ≡ WRITE_FAULT → IsSaid (Err Write) shown old new before now result
said_cut shown old new before now result front rose is = record { status = WRITE_FAULT; text = []; go = inl (refl, refl); ends = inr (is, inl (refl, front), rose) }

is_write : (stop : Stop) → (stop ≡ Write) ⊎ (stop ≢ Write)
is_write Usage = inr (λ is. cc)
is_write (BadLine bad) = inr (λ is. cc)
is_write InputLong = inr (λ is. cc)
is_write Read = inr (λ is. cc)
is_write Write = inl refl
is_write Device = inr (λ is. cc)
is_write (Region why) = inr (λ is. cc)
is_write NoMemory = inr (λ is. cc)
is_write Turns = inr (λ is. cc)

abbrev as_stop : Stop → Outcome
as_stop stop = Err stop

same_stop : (one other : Stop) → as_stop one ≡ as_stop other → one ≡ other
same_stop one other is = cc

pub said_stop : (stop : Stop) (shown : List PlacedCall) (old mid new : Option (List ℕ)) (before then now result : ℕ) → HasShown (Err stop) shown old mid before then
    → (stop ≢ Write → IsSaid (Err stop) [] mid new then now result) → (stop ≡ Write → (result ≡ WRITE_FAULT) × (new ≡ mid) × (now ≡ then)) → IsSaid (Err stop) (history_lines 0 shown) old new before now result
said_stop stop shown old mid new before then now result lines said write = elim (is_write stop) [
  | inl is ↦
      let cut = lines.cut (ap Err is) in
      let same = write is in
      subst (λ (stop : Stop). IsSaid (Err stop) (history_lines 0 shown) old new before now result) (sym is)
      (said_cut (history_lines 0 shown) old new before now result (subst (λ new. AppendsFront old new (history_lines 0 shown)) (sym same.1) cut.0) (subst (λ now. Rose before now) (sym same.2) cut.1) same.0)
  | inr other ↦
      let whole = lines.whole (λ is. other (same_stop stop Write is)) in
      said_behind (Err stop) (history_lines 0 shown) old mid new before then now result (λ is. other (same_stop stop Write is)) whole.0 whole.1 (said other)
]

-- a command that has shown nothing before its end
pub nothing_shown : (came : Outcome) (written : Option (List ℕ)) (faults : ℕ) → came ≢ Err Write → HasShown came [] written written faults faults
nothing_shown came written faults other = record { whole = λ is. (nothing_written written, refl); cut = λ is. absurd (other is) }

-- ---- which outcome a status is of

AsSaid : Outcome → ℕ → Type 0
AsSaid came result = (result ≡ said_status came) ⊎ ((result ≡ WRITE_FAULT) ⊎ (result ≡ NO_MEMORY))

as_said : (came : Outcome) (shown : List ℕ) (old new : Option (List ℕ)) (before now result : ℕ) → IsSaid came shown old new before now result → AsSaid came result
unfolding AsSaid
as_said came shown old new before now result said = elim said.ends [
  | inl well ↦ elim said.go [ inl own ↦ inl (well.1 ∙ own.0) | inr memory ↦ inr (inr (well.1 ∙ memory.1)) ]
  | inr failed ↦ inr (inl failed.0)
]

own : (came : Outcome) (result wanted : ℕ) → AsSaid came result → result ≡ wanted → WRITE_FAULT ≢ wanted → NO_MEMORY ≢ wanted → said_status came ≡ wanted
unfolding AsSaid
own came result wanted said is sound enough = elim said [
  | inl same ↦ sym same ∙ is
  | inr rest ↦ elim rest [ inl fault ↦ absurd (sound (sym fault ∙ is)) | inr memory ↦ absurd (enough (sym memory ∙ is)) ]
]

least : (came : Outcome) → said_status came ≤ TURNS_USED
least (Ok text) = omega arith
least (Err Usage) = omega arith
least (Err (BadLine bad)) = omega arith
least (Err InputLong) = omega arith
least (Err Read) = omega arith
least (Err Write) = omega arith
least (Err Device) = omega arith
least (Err (Region why)) = omega arith
least (Err NoMemory) = omega arith
least (Err Turns) = omega arith

one_of_nine : (came : Outcome) (result : ℕ) → AsSaid came result → result ≤ TURNS_USED
unfolding AsSaid
one_of_nine came result said =
    let most = least came in
    elim said [
      | inl same ↦ omega (arith, same, most)
      | inr rest ↦ elim rest [ inl fault ↦ omega (arith, fault) | inr memory ↦ omega (arith, memory) ]
    ]

of_done : (came : Outcome) → said_status came ≡ DONE → IsOk came
of_done (Ok text) is = refl
of_done (Err Usage) is = absurd (omega (arith, is))
of_done (Err (BadLine bad)) is = absurd (omega (arith, is))
of_done (Err InputLong) is = absurd (omega (arith, is))
of_done (Err Read) is = absurd (omega (arith, is))
of_done (Err Write) is = absurd (omega (arith, is))
of_done (Err Device) is = absurd (omega (arith, is))
of_done (Err (Region why)) is = absurd (omega (arith, is))
of_done (Err NoMemory) is = absurd (omega (arith, is))
of_done (Err Turns) is = absurd (omega (arith, is))

of_usage : (came : Outcome) → said_status came ≡ USAGE → came ≡ Err Usage
of_usage (Ok text) is = absurd (omega (arith, is))
of_usage (Err Usage) is = refl
of_usage (Err (BadLine bad)) is = absurd (omega (arith, is))
of_usage (Err InputLong) is = absurd (omega (arith, is))
of_usage (Err Read) is = absurd (omega (arith, is))
of_usage (Err Write) is = absurd (omega (arith, is))
of_usage (Err Device) is = absurd (omega (arith, is))
of_usage (Err (Region why)) is = absurd (omega (arith, is))
of_usage (Err NoMemory) is = absurd (omega (arith, is))
of_usage (Err Turns) is = absurd (omega (arith, is))

of_bad_input : (came : Outcome) → said_status came ≡ BAD_INPUT → ((bad : Bad) × (came ≡ Err (BadLine bad))) ⊎ (came ≡ Err InputLong)
of_bad_input (Ok text) is = absurd (omega (arith, is))
of_bad_input (Err Usage) is = absurd (omega (arith, is))
of_bad_input (Err (BadLine bad)) is = inl (bad, refl)
of_bad_input (Err InputLong) is = inr refl
of_bad_input (Err Read) is = absurd (omega (arith, is))
of_bad_input (Err Write) is = absurd (omega (arith, is))
of_bad_input (Err Device) is = absurd (omega (arith, is))
of_bad_input (Err (Region why)) is = absurd (omega (arith, is))
of_bad_input (Err NoMemory) is = absurd (omega (arith, is))
of_bad_input (Err Turns) is = absurd (omega (arith, is))

of_read : (came : Outcome) → said_status came ≡ READ_FAULT → came ≡ Err Read
of_read (Ok text) is = absurd (omega (arith, is))
of_read (Err Usage) is = absurd (omega (arith, is))
of_read (Err (BadLine bad)) is = absurd (omega (arith, is))
of_read (Err InputLong) is = absurd (omega (arith, is))
of_read (Err Read) is = refl
of_read (Err Write) is = absurd (omega (arith, is))
of_read (Err Device) is = absurd (omega (arith, is))
of_read (Err (Region why)) is = absurd (omega (arith, is))
of_read (Err NoMemory) is = absurd (omega (arith, is))
of_read (Err Turns) is = absurd (omega (arith, is))

of_device : (came : Outcome) → said_status came ≡ DEVICE_FAULT → came ≡ Err Device
of_device (Ok text) is = absurd (omega (arith, is))
of_device (Err Usage) is = absurd (omega (arith, is))
of_device (Err (BadLine bad)) is = absurd (omega (arith, is))
of_device (Err InputLong) is = absurd (omega (arith, is))
of_device (Err Read) is = absurd (omega (arith, is))
of_device (Err Write) is = absurd (omega (arith, is))
of_device (Err Device) is = refl
of_device (Err (Region why)) is = absurd (omega (arith, is))
of_device (Err NoMemory) is = absurd (omega (arith, is))
of_device (Err Turns) is = absurd (omega (arith, is))

of_region : (came : Outcome) → said_status came ≡ BAD_REGION → (why : Refusal) × (came ≡ Err (Region why))
of_region (Ok text) is = absurd (omega (arith, is))
of_region (Err Usage) is = absurd (omega (arith, is))
of_region (Err (BadLine bad)) is = absurd (omega (arith, is))
of_region (Err InputLong) is = absurd (omega (arith, is))
of_region (Err Read) is = absurd (omega (arith, is))
of_region (Err Write) is = absurd (omega (arith, is))
of_region (Err Device) is = absurd (omega (arith, is))
of_region (Err (Region why)) is = (why, refl)
of_region (Err NoMemory) is = absurd (omega (arith, is))
of_region (Err Turns) is = absurd (omega (arith, is))

of_turns : (came : Outcome) → said_status came ≡ TURNS_USED → came ≡ Err Turns
of_turns (Ok text) is = absurd (omega (arith, is))
of_turns (Err Usage) is = absurd (omega (arith, is))
of_turns (Err (BadLine bad)) is = absurd (omega (arith, is))
of_turns (Err InputLong) is = absurd (omega (arith, is))
of_turns (Err Read) is = absurd (omega (arith, is))
of_turns (Err Write) is = absurd (omega (arith, is))
of_turns (Err Device) is = absurd (omega (arith, is))
of_turns (Err (Region why)) is = absurd (omega (arith, is))
of_turns (Err NoMemory) is = absurd (omega (arith, is))
of_turns (Err Turns) is = refl

pub statuses_tell : StatusesTellWhatCame
statuses_tell came shown old new before now result said =
    let one = as_said came shown old new before now result said in
    record {
      one_of_nine = one_of_nine came result one;
      done = λ is. of_done came (own came result DONE one is (omega arith) (omega arith));
      usage = λ is. of_usage came (own came result USAGE one is (omega arith) (omega arith));
      bad_input = λ is. of_bad_input came (own came result BAD_INPUT one is (omega arith) (omega arith));
      read = λ is. of_read came (own came result READ_FAULT one is (omega arith) (omega arith));
      device = λ is. of_device came (own came result DEVICE_FAULT one is (omega arith) (omega arith));
      region = λ is. of_region came (own came result BAD_REGION one is (omega arith) (omega arith));
      turns = λ is. of_turns came (own came result TURNS_USED one is (omega arith) (omega arith));
      write = λ is. elim said.ends [ inl well ↦ absurd (well.0 is) | inr failed ↦ failed.0 ];
    }

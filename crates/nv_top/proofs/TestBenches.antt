-- What a command leaves of a bench in memory of which nothing was lent.
use Rattle.std.proofs.Common.{◌≡◌, ◌⊎◌, inl, inr, ℕ, ◌+◌, ◌≤◌, Bool, true, false, List, sym, ap, [], ◌∙◌, arith, refl}
use Rattle.std.proofs.lemmas.Bool.{true≢false}
use Rattle.std.specs.Prelude.{Option, Some, None}
use Rattle.nv_pmem.specs.declared.picker.Pick.{Pick}
use Rattle.nv_bench.specs.Benches.{BenchState, with_faults}
use Rattle.nv_bench.specs.Holding.{Holding}
use Rattle.nv_top.specs.Commands.{IsGivenBack}
use Rattle.nv_top.specs.Headline.{IsLeftAfter, IsLeftBy, command_over, possible}
use Rattle.nv_top.specs.Stopping.{IsAllBack, IsPoweredBack}
use Rattle.nv_words.specs.Words.{command_of, names_schedule}
use Rattle.nv_words.specs.declared.words.Command.{Command}
use Rattle.nv_words.specs.declared.words.Command.TheVariants.{Run, Sched, Recover, Look, Gen}
use Rattle.nv_words.specs.declared.words.RunOptions.{RunOptions}
use Rattle.nv_top.proofs.HeadlineLemmas.{schedules_on}
use Rattle.nv_words.proofs.LimitLemmas.{and_then_some, only_sched}

-- nothing is lent then; and it was armed at most once more by another command than a schedule
pub record IsFree (schedules : Bool) (old new : BenchState) : Type 0 where
  pub closed : new.is_open ≡ false
  pub home : new.lent ≡ []
  pub arms : schedules ≡ false → new.arms ≤ old.arms + 1

module _ (schedules : Bool) (old new : BenchState) (closed : old.is_open ≡ false) (home : old.lent ≡ []) where
  given : IsGivenBack old new → IsFree schedules old new
  given is = record {
    closed = ap (λ (state : BenchState). state.is_open) is ∙ closed;
    home = ap (λ (state : BenchState). state.lent) is ∙ home;
    arms = λ other. let same : new.arms ≡ old.arms = ap (λ (state : BenchState). state.arms) is in omega (arith, same);
  }

  unchanged : new ≡ with_faults new.faults old → IsGivenBack old new
  unchanged is = is ∙ ap (λ (told : Option Holding). record old { told = told; faults = new.faults }) (sym (ap (λ (state : BenchState). state.told) is))

  powered_back : (k : ℕ) → IsPoweredBack k old new → IsFree schedules old new
  powered_back k is = record {
    closed = ap (λ (state : BenchState). state.is_open) is;
    home = ap (λ (state : BenchState). state.lent) is;
    arms = λ other. let more : new.arms ≡ old.arms + 1 = ap (λ (state : BenchState). state.arms) is in omega (arith, more);
  }

  back_powered : schedules ≡ true → IsAllBack new → IsFree schedules old new
  back_powered sched is = record {
    closed = ap (λ (state : BenchState). state.is_open) is;
    home = ap (λ (state : BenchState). state.lent) is;
    arms = λ other. absurd (true≢false (sym sched ∙ other));
  }

  unmoved : new ≡ old → IsFree schedules old new
  unmoved is = record {
    closed = ap (λ (state : BenchState). state.is_open) is ∙ closed;
    home = ap (λ (state : BenchState). state.lent) is ∙ home;
    arms = λ other. let same : new.arms ≡ old.arms = ap (λ (state : BenchState). state.arms) is in omega (arith, same);
  }

  either_back : (k : ℕ) → IsPoweredBack k old new ⊎ IsGivenBack old new → IsFree schedules old new
  either_back k (inl is) = powered_back k is
  either_back k (inr is) = given is

  left_after : (stop : Option ℕ) (pick : Pick) → IsLeftAfter stop pick old new → IsFree schedules old new
  left_after None pick is = given is
  left_after (Some k) pick is = either_back k is.0

  left : (command : Command) → ((options : RunOptions) → command ≡ Sched options → schedules ≡ true) → IsLeftBy command old new → IsFree schedules old new
  left (Run options) only is = left_after options.stop options.image is
  left (Sched options) only is = back_powered (only options refl) is
  left Recover only is = given is
  left (Look false) only is = given (unchanged is)
  left (Look true) only is = given is.0
  left (Gen load) only is = given is

  free_by : {A B : Type 0} (command : Option Command) → ((options : RunOptions) → command ≡ Some (Sched options) → schedules ≡ true) → ((one : Command) → command ≡ Some one → IsLeftBy one old new)
      → (command ≡ None → A × B × (new ≡ old)) → IsFree schedules old new
  free_by None only back none = unmoved (none refl).2
  free_by (Some command) only back none = left command (λ options is. only options (ap Some is)) (back command refl)

-- words that a bench can follow as a schedule are those of one
schedule_over : (images : Bool) (words : List (List ℕ)) (options : RunOptions) → command_over images words ≡ Some (Sched options) → names_schedule words ≡ true
schedule_over images words options is =
    let command = and_then_some (possible images) (command_of words) (Sched options) is in
    only_sched words options (command.1 ∙ ap Some (schedules_on images command.0 options command.2).0)

pub is_free : {A B : Type 0} (images : Bool) (words : List (List ℕ)) (old new : BenchState) → old.is_open ≡ false → old.lent ≡ [] → ((one : Command) → command_over images words ≡ Some one → IsLeftBy one old new)
    → (command_over images words ≡ None → A × B × (new ≡ old)) → IsFree (names_schedule words) old new
is_free images words old new closed home back none = free_by (names_schedule words) old new closed home (command_over images words) (λ options is. schedule_over images words options is) back none

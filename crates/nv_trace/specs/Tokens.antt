-- The tokens of a schedule: how each is spelled.
use Rattle.std.specs.Prelude.{ℕ, ◌-◌, ◌^◌, ◌==◌, if◌then◌else◌, List, [], ◌∷◌, codes, Option, Some, None}
use Rattle.std.specs.Option.{option_and_then, option_map}
use Rattle.std.specs.Result.{result_ok}
use Rattle.nv_pmem.specs.declared.picker.Pick.{Pick}
use Rattle.nv_pmem.specs.declared.picker.Pick.TheVariants as pick
use Rattle.nv_trace.specs.Lines.{parts_between}
use Rattle.nv_trace.specs.Grammar.{last_thread, number_of, says}
use Rattle.nv_trace.specs.declared.token.LineToken.{LineToken}
use Rattle.nv_trace.specs.declared.token.LineToken.TheVariants.{Inside, Crash}
use Rattle.nv_trace.specs.declared.token.Reach.{Reach}
use Rattle.nv_trace.specs.declared.token.Reach.TheVariants as reach
use Rattle.nv_trace.specs.declared.token.StepName.{StepName}
use Rattle.nv_trace.specs.declared.token.StepName.TheVariants as step
use Rattle.nv_trace.specs.declared.token.Token.{Token}
use Rattle.nv_trace.specs.declared.token.Token.TheVariants.{Advance, Cut}
use Rattle.nv_trace.specs.declared.token.Turn.{Turn}
use Rattle.nv_trace.specs.declared.token.Turn.TheVariants as turn

-- the largest number of a device call at which one is cut
abbrev pub last_cut : ℕ
last_cut = 2 ^ 32 - 1

-- the largest seed of what a power failure leaves
abbrev pub last_seed : ℕ
last_seed = 2 ^ 32 - 1

-- the kind of step that a field names
unfoldable pub step_of : List ℕ → Option StepName
step_of field =
    if says field (codes "load") then Some step.Load
    else if says field (codes "take") then Some step.Take
    else if says field (codes "give") then Some step.Give
    else if says field (codes "place") then Some step.Place
    else if says field (codes "stop") then Some step.Stop
    else if says field (codes "draw") then Some step.Draw
    else if says field (codes "seize") then Some step.Seize
    else if says field (codes "pledge") then Some step.Pledge
    else if says field (codes "ready") then Some step.Ready
    else if says field (codes "grow") then Some step.Grow
    else if says field (codes "break") then Some step.Break
    else if says field (codes "hold") then Some step.Hold
    else if says field (codes "return") then Some step.Return
    else if says field (codes "subtract") then Some step.Subtract
    else if says field (codes "free") then Some step.Free
    else if says field (codes "tail") then Some step.Tail
    else if says field (codes "hand") then Some step.Hand
    else if says field (codes "hint") then Some step.Hint
    else None

-- whose turn it is: the cleaner's, `w`, or a thread's, by its number
unfoldable pub turn_by : List ℕ → Option Turn
turn_by field =
    if says field (codes "w") then Some turn.Cleaner else option_map turn.Thread (result_ok (number_of last_thread field))

-- how far it goes: to an answer, `done`, or to a kind of step
unfoldable pub reach_of : List ℕ → Option Reach
reach_of field = if says field (codes "done") then Some reach.Done else option_map reach.Kind (step_of field)

-- advances of the one whose turn it is
abbrev pub advances : Option Turn → Option Reach → Option Token
advances turn reach = option_and_then (λ turn. option_map (Advance turn) reach) turn

-- the first device call that is refused, by its number, counted from 1
unfoldable pub cut_of : List ℕ → Option Token
cut_of field = option_and_then (λ number. if number == 0 then None else Some (Cut number)) (result_ok (number_of last_cut field))

-- what a power failure leaves, by its word, or by the seed of its draws
unfoldable pub pick_of : List ℕ → Option Pick
pick_of field =
    if says field (codes "old") then Some pick.Old
    else if says field (codes "new") then Some pick.New
    else if says field (codes "torn") then Some pick.Torn
    else if says field (codes "mixed") then Some pick.Mixed
    else option_map pick.Seed (result_ok (number_of last_seed field))

-- what the parts of a token of a life between its colons say: `T` or `w`, either with `:done` or `:KIND`, or `cut:K`
unfoldable pub token_by : List (List ℕ) → Option Token
token_by (turn ∷ []) = advances (turn_by turn) (Some reach.One)
token_by (word ∷ last ∷ []) = if says word (codes "cut") then cut_of last else advances (turn_by word) (reach_of last)
token_by _ = None

-- what the parts of a crash say: `crash:PICK`
unfoldable pub crash_by : List (List ℕ) → Option Pick
crash_by (word ∷ last ∷ []) = if says word (codes "crash") then pick_of last else None
crash_by _ = None

-- a crash, or a token of a life
abbrev pub line_token : Option Pick → Option Token → Option LineToken
line_token (Some pick) token = Some (Crash pick)
line_token None token = option_map Inside token

-- the token that a field is
unfoldable pub token_of : List ℕ → Option LineToken
token_of field = line_token (crash_by (parts_between 58 field)) (token_by (parts_between 58 field))

-- the tokens that some fields are, where each of them is one
unfoldable pub tokens_of : List (List ℕ) → Option (List LineToken)
tokens_of [] = Some []
tokens_of (field ∷ fields) = option_and_then (λ token. option_map (λ tokens. token ∷ tokens) (tokens_of fields)) (token_of field)

use Rattle.std.proofs.Common.{◌≡◌, ℕ, ◌<◌, true, false, List, length, rules, arith}
use Rattle.std.specs.Prelude.{nat_eq}
use Rattle.std.specs.List.{list_any}
use lib.Pointwise.{pointwise}
use Rattle.nv_plain.specs.Names.{is_name}
use Rattle.nv_plain.specs.Layouts.{Layout, layout_of}
use Rattle.nv_header.specs.Additions.{CanAdd}
use Rattle.nv_header.specs.FileNames.{IsNewName}
use Rattle.nv_header.proofs.NewNames.{unknown_name, known_name}
use Rattle.nv_header.proofs.adding.with_name.Goals as goal
use Rattle.nv_header.proofs.adding.with_name.Goals.{then-not-is_file_name-via-then-not-is_file_name, then-not-is_file_name-via-else-not-is_file_name+then-contains}

not_new : (layout : Layout) (names : List (List ℕ)) (name : List ℕ) → is_name layout.name_limit name ≡ false → IsNewName layout names name → ⊥
not_new layout names name bad new = let allowed = new.allowed in cc

can_add : (layout : Layout) (names : List (List ℕ)) (name : List ℕ) → length names < layout.file_limit → is_name layout.name_limit name ≡ true → list_any (λ one. pointwise nat_eq one name) names ≡ false → CanAdd layout names name
can_add layout names name few allowed unknown = record { few = few; is_new = record { allowed = allowed; new = unknown_name names name unknown } }

pub returns-then-not-is_file_name-clause-refused : goal.returns-then-not-is_file_name-clause-refused
returns-then-not-is_file_name-clause-refused c =
    let names = c.args.names in
    let name = c.args.name.now in
    let layout = layout_of c.args.version in
    let few : length names < layout.file_limit = omega (arith, c.len.ensures, c.file_limit.ensures) in
    let bad : IsNewName layout names name → ⊥ = elim c.then-not-is_file_name.branch [
      | then-not-is_file_name-via-then-not-is_file_name w ↦
          let bad : is_name layout.name_limit name ≡ false = search rules in not_new layout names name bad
      | then-not-is_file_name-via-else-not-is_file_name+then-contains w ↦
          let known : list_any (λ one. pointwise nat_eq one name) names ≡ true = search rules in
          λ (new : IsNewName layout names name). known_name names name known new.new
    ] in
    (few, bad, c.len-then-not-is_file_name.ensures)

pub returns-in-Ok-clause-added : goal.returns-in-Ok-clause-added
returns-in-Ok-clause-added c = can_add (layout_of c.args.version) c.args.names c.args.name.now (omega (arith, c.len.ensures, c.file_limit.ensures)) (search rules) (search rules)

pub returns-in-Err-clause-refused : goal.returns-in-Err-clause-refused
returns-in-Err-clause-refused c = can_add (layout_of c.args.version) c.args.names c.args.name.now (omega (arith, c.len.ensures, c.file_limit.ensures)) (search rules) (search rules)

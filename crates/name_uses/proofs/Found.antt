-- The names that are found are those of the script.
use Rattle.std.proofs.Common.{◌≡◌, ℕ, suc, ◌+◌, ◌<◌, ◌≤◌, Bool, true, false, List, [], ◌∷◌, ◌++◌, map, drop, length, get_or, sym, ap, ◌∙◌, add-one}
use lib.Seq.{drop-cons}
use Rattle.std.proofs.lemmas.List.{append_assoc, append-nil, drop_all}
use Rattle.action_script.specs.declared.forms.script.Line.{Line}
use Rattle.action_script.specs.declared.forms.uses.SortedWord.{SortedWord}
use Rattle.action_script.specs.Forms.Uses.{used_words, declared_words}
use Rattle.script_checker.specs.declared.declared.SoFar.{SoFar}
use Rattle.script_checker.specs.After.{settled, after}
use Rattle.script_checker.specs.DeclaredSoFar.{nothing_yet}
use Rattle.name_uses.specs.declared.occurrences.Occurrence.{Occurrence}
use Rattle.name_uses.specs.declared.scope.Scope.{Scope}
use Rattle.name_uses.specs.declared.thing.Thing.{Thing}
use Rattle.name_uses.specs.Occurrences.{occurrence, occurrences_in, occurrences_from}
use Rattle.name_uses.specs.inner.Scopes.{scope_of, said}
use Rattle.name_uses.specs.inner.Found.{occurrence_at, found_in}
use Rattle.name_uses.proofs.ScopeSteps.{settled_scope, scope_step}
use Rattle.name_uses.proofs.Meant.{meaning_is}

-- a name by what is kept
occurrence_is : (s : SoFar) (declares : Bool) (number : ℕ) (w : SortedWord)
    → occurrence_at (scope_of s) declares number w ≡ occurrence s declares number w
occurrence_is s declares number w =
    ap (λ (t : Thing). record { line = number; word = w.word; name = w.name; thing = t; declares = declares }) (meaning_is s w.sort w.name)

all_are : (s : SoFar) (declares : Bool) (number : ℕ) (words : List SortedWord)
    → map (occurrence_at (scope_of s) declares number) words ≡ map (occurrence s declares number) words
all_are s declares number words = ap (λ f. map f words) (λ i w. occurrence_is s declares number w i)

-- the names of a line
pub found_is : (names : List (List ℕ)) (s : SoFar) (line : Line)
    → found_in (scope_of s) (scope_of (after names s line.form)) line ≡ occurrences_in names s line
found_is names s line =
    let behind = after names s line.form in
    ap (λ scope. map (occurrence_at scope false line.number) (used_words line.form)
    ++ map (occurrence_at (scope_of behind) true line.number) (declared_words line.form)) (settled_scope s line.form)
    ∙ ap (λ l. l ++ map (occurrence_at (scope_of behind) true line.number) (declared_words line.form))
    (all_are (settled s line.form) false line.number (used_words line.form))
    ∙ ap (λ l. map (occurrence (settled s line.form) false line.number) (used_words line.form) ++ l)
    (all_are behind true line.number (declared_words line.form))

-- what is found so far, before the line at a place: this is declared, and the names of the lines from there on are still to come
pub record HasFound (names : List (List ℕ)) (lines : List Line) (whole found : List Occurrence) (scope : Scope) (i : ℕ) : Type 0 where
  pub so_far : SoFar
  pub kept : scope ≡ scope_of so_far
  pub left : found ++ occurrences_from names so_far (drop i lines) ≡ whole

-- once the line at a place was taken
pub found_more : (names : List (List ℕ)) (lines : List Line) (whole found more : List Occurrence) (before behind : Scope) (i : ℕ) (line : Line)
    → i < length lines → line ≡ get_or lines i line → HasFound names lines whole found before i → behind ≡ said before line.form
    → more ≡ found ++ found_in before behind line → HasFound names lines whole more behind (i + 1)
found_more names lines whole found more before behind i line within is kept scope taken =
    let s = kept.so_far in
    let next : behind ≡ scope_of (after names s line.form) = scope ∙ ap (λ k. said k line.form) kept.kept ∙ scope_step names s line.form in
    let here : found_in before behind line ≡ occurrences_in names s line =
    ap (λ k. found_in k behind line) kept.kept ∙ ap (λ k. found_in (scope_of s) k line) next ∙ found_is names s line in
    let rest = occurrences_from names (after names s line.form) (drop (i + 1) lines) in
    record {
      so_far = after names s line.form;
      kept = next;
      left = ap (λ l. l ++ rest) (taken ∙ ap (λ l. found ++ l) here) ∙ append_assoc found (occurrences_in names s line) rest
          ∙ ap (λ l. found ++ l)
          (ap (λ k. occurrences_in names s line ++ occurrences_from names (after names s line.form) (drop k lines)) (add-one i)
          ∙ ap (λ l. occurrences_from names s (l ∷ drop (suc i) lines)) is
          ∙ ap (occurrences_from names s) (sym (drop-cons lines i line within)))
          ∙ kept.left;
    }

-- before the first line
pub found_begun : (names : List (List ℕ)) (lines : List Line) (found : List Occurrence) (scope : Scope) → found ≡ []
    → scope ≡ scope_of (nothing_yet names) → HasFound names lines (occurrences_from names (nothing_yet names) lines) found scope 0
found_begun names lines found scope none same = record {
  so_far = nothing_yet names;
  kept = same;
  left = ap (λ l. l ++ occurrences_from names (nothing_yet names) lines) none;
}

-- behind the last
pub found_done : (names : List (List ℕ)) (lines : List Line) (whole found : List Occurrence) (scope : Scope) (i : ℕ) → length lines ≤ i
    → HasFound names lines whole found scope i → found ≡ whole
found_done names lines whole found scope i past kept =
    sym (append-nil found) ∙ ap (λ rest. found ++ occurrences_from names kept.so_far rest) (sym (drop_all i lines past)) ∙ kept.left

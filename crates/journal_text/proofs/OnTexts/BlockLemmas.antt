-- What is written piece by piece.
use Rattle.std.proofs.Common.{◌≡◌, ◌∙◌, ℕ, ◌+◌, ◌<◌, List, [], ◌++◌, length, slice_index_or, take, drop, reverse, append_assoc, Option, Some, None, Result, Ok, Err, OnOk, OnErr, refl, sym, ap, subst, arith}
use Rattle.std.specs.Io.KnownBytes.{append_known}
use Rattle.std.specs.List.{flat_map}
use Rattle.std.proofs.lemmas.List.{append-nil, flat_map_more, length-append, take-append-le, take-append-drop, take_more}
use Rattle.std.proofs.lemmas.Grind.{flat_map-append}
use Rattle.std.proofs.Math.Seq.{take-add, take-append-add}
use Rattle.caa_base.specs.Outside.Writing.{WrotePart}
use Rattle.caa_base.specs.declared.written.entry.Entry.{Entry}
use Rattle.caa_base.proofs.KnownBytes.{append_known-append_known, append_known-more}
use Rattle.place_plan.specs.Plans.PlanValue.{Plan}
use Rattle.journal_text.specs.declared.looks.seens.Seen.{Seen}
use Rattle.journal_text.specs.Texts.Text.{closing_lines, seen_line, entries_text, rest_lines, text_of}

-- nothing was appended
pub append_known-nothing : (held : Option (List ℕ)) → append_known held [] ≡ held
append_known-nothing None = refl
append_known-nothing (Some bytes) = ap Some (append-nil bytes)

-- a part that was written behind a front is a part of the whole
pub part_behind : (old new : Option (List ℕ)) (front piece rest : List ℕ)
    → WrotePart (append_known old front) new piece → WrotePart old new (front ++ (piece ++ rest))
part_behind old new front piece rest part = record {
  count = length front + part.count;
  proper = omega (arith, part.proper, length-append front (piece ++ rest), length-append piece rest);
  front =
      part.front ∙ append_known-append_known old front (take part.count piece)
      ∙ ap (append_known old) (sym (rw (
        take-append-add front (piece ++ rest) part.count,
        take-append-le part.count piece rest (omega (arith, part.proper)),
      ) refl));
}

-- a part of a text that has this front, this piece behind it, and a rest
pub part_of : (old mid new : Option (List ℕ)) (front piece rest text : List ℕ) → text ≡ front ++ (piece ++ rest)
    → mid ≡ append_known old front → WrotePart mid new piece → WrotePart old new text
part_of old mid new front piece rest text is before part =
    subst (WrotePart old new) (sym is)
    (part_behind old new front piece rest (subst (λ held. WrotePart held new piece) before part))

-- what a write of a piece comes to behind a front that was written, with the front
pub all_on : {T E : Type 0} (r : Result T E) (old mid new : Option (List ℕ)) (front piece : List ℕ)
    → mid ≡ append_known old front → OnOk r (new ≡ append_known mid piece) → OnOk r (new ≡ append_known old (front ++ piece))
all_on (Ok v) old mid new front piece before done = append_known-more old mid new front piece _ before done refl
all_on (Err e) old mid new front piece before done = tt

pub part_on : {T E : Type 0} (r : Result T E) (old mid new : Option (List ℕ)) (front piece : List ℕ)
    → mid ≡ append_known old front → OnErr r (WrotePart mid new piece) → OnErr r (WrotePart old new (front ++ piece))
part_on (Ok v) old mid new front piece before part = tt
part_on (Err e) old mid new front piece before part =
    part_of old mid new front piece [] _ (ap (λ p. front ++ p) (sym (append-nil piece))) before part

-- whatever failed, this holds
pub on_err : {T E X : Type 0} (r : Result T E) → X → OnErr r X
on_err (Ok v) x = tt
on_err (Err e) x = x

module _ {X : Type 0} (line_of : X → List ℕ) (xs : List X) where
  -- the lines of one more
  pub line_on : (i : ℕ) (d : X) (old new : List ℕ) → i < length xs → new ≡ old ++ line_of (slice_index_or xs i d)
      → old ≡ flat_map line_of (take i xs) → new ≡ flat_map line_of (take (i + 1) xs)
  line_on i d old new l more before =
      more ∙ ap (λ o. o ++ line_of (slice_index_or xs i d)) before
      ∙ flat_map_more line_of [] (take i xs) (slice_index_or xs i d) ∙ ap (flat_map line_of) (sym (take_more xs i d l))

  -- the lines of some more were written, of those from the nth on so many
  pub lines_on : (old mid new : Option (List ℕ)) (n m k : ℕ) → n + m ≡ k → mid ≡ append_known old (flat_map line_of (take n xs))
      → new ≡ append_known mid (flat_map line_of (take m (drop n xs))) → new ≡ append_known old (flat_map line_of (take k xs))
  lines_on old mid new n m k same before more =
      append_known-more old mid new (flat_map line_of (take n xs)) (flat_map line_of (take m (drop n xs))) _ before more
      (sym (ap (λ i. flat_map line_of (take i xs)) (sym same) ∙ ap (flat_map line_of) (take-add n m xs)
      ∙ flat_map-append line_of (take n xs) (take m (drop n xs))))

  -- of these a part was written: it is a part of all
  pub lines_cut : (old mid new : Option (List ℕ)) (n m : ℕ) → mid ≡ append_known old (flat_map line_of (take n xs))
      → WrotePart mid new (flat_map line_of (take m (drop n xs))) → WrotePart old new (flat_map line_of xs)
  lines_cut old mid new n m before part =
      part_of old mid new (flat_map line_of (take n xs)) (flat_map line_of (take m (drop n xs)))
      (flat_map line_of (drop m (drop n xs))) (flat_map line_of xs)
      (ap (flat_map line_of) (sym (take-append-drop n xs)) ∙ flat_map-append line_of (take n xs) (drop n xs)
      ∙ ap (λ l. flat_map line_of (take n xs) ++ l)
      (ap (flat_map line_of) (sym (take-append-drop m (drop n xs))) ∙ flat_map-append line_of (take m (drop n xs)) (drop m (drop n xs))))
      before part

-- the text of a journal, by that of its entries and what stands behind it
pub text_behind : (plan : Plan) (journal : List Entry) (seens : List Seen)
    → entries_text plan journal ++ rest_lines plan journal seens ≡ text_of plan journal seens
text_behind plan journal seens =
    sym (append_assoc (entries_text plan journal) (closing_lines plan (reverse journal)) (flat_map (seen_line plan) seens))

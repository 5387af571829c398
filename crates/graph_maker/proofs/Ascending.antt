-- Words are read as ascending numbers.
use Rattle.std.proofs.Common.{◌≡◌, ℕ, ◌+◌, ◌<◌, ◌≤◌, nat_le, Bool, true, false, ◌&&◌, List, length, drop, get_or, Option, Some, None, Bor, sym, ap, ◌∙◌, arith}
use Rattle.std.specs.Fn.{CalledAt}
use Rattle.std.specs.Iterator.{Yields}
use Rattle.std.specs.List.{slice_split}
use Rattle.std.specs.Slice.Iter as slice
use Rattle.std.specs.declared.slice.Split.{Split}
use denote.Param.Members.{Mut}
use Rattle.std.proofs.lemmas.Bool.{le-ltb, lt-ltb}
use Rattle.std.proofs.lemmas.Iterator.Consumers.{YieldsList-at, YieldsList-turn, YieldsList-end}
use Rattle.std.proofs.lemmas.Iterator.Splits.{YieldsList-from_slice_split}
use Rattle.std.proofs.lemmas.List.{at_drop_more, at_drop_all}
use Rattle.caa_base.specs.Written.Lines.{at_most}
use Rattle.action_script.specs.Words.ScriptWords.{natural_of}
use Rattle.graph_maker.specs.SetNames.{are_numbers, ascend, goes_on}

-- ---- what a cut list yields

module _ {F : Type 0} {s s' : Split ℕ F} (t u : Split ℕ F) {g : Mut F (Bor ℕ × Unit {0}) Bool} {f : F}
    {r : Option (Bor (List ℕ))} (p : ℕ → Bool) (xs : List ℕ) (items : List (Bor (List ℕ)))
    (yields : Yields (slice.split_steps g) s items t) (step : slice.split_steps g t r u) (same : s ≡ s')
    (rest : slice.split_rest s' ≡ xs) (done : slice.split_done s' ≡ false) (closure : slice.split_callee s' ≡ f)
    (tests : (x : ℕ) (b : Bool) (q : F) → CalledAt g f x b q → (q ≡ f) × (b ≡ p x)) where
  -- the next piece
  pub piece_next : (x : Bor (List ℕ)) → r ≡ Some x
      → (length items < length (slice_split p xs)) × (x.now ≡ get_or (slice_split p xs) (length items) x.now)
  piece_next x is =
      YieldsList-turn (YieldsList-at same (YieldsList-from_slice_split g p xs rest done closure tests)) items t yields r u x is step

  -- no piece is left
  pub pieces_end : r ≡ None → length items ≡ length (slice_split p xs)
  pieces_end is =
      (YieldsList-end (YieldsList-at same (YieldsList-from_slice_split g p xs rest done closure tests)) items t yields r u is step).1

-- ---- what the pieces say

-- so many of the words were read, each was a greater number than the one before it, and the last of these was this
pub record IsAscending (n : ℕ) (words : List (List ℕ)) (read count last : ℕ) : Type 0 where
  pub counted : count ≡ read
  pub few : count ≤ last
  pub low : last ≤ n
  pub same : ascend n last (drop read words) ≡ ascend n 0 words

-- words that don't ascend are no numbers of members
refuse : (n most : ℕ) (words : List (List ℕ)) → ascend n 0 words ≡ false → false ≡ are_numbers n most words
refuse n most words h = sym (ap (λ b. b && (nat_le 2 (length words) && nat_le (length words) most)) h)

module _ (n most : ℕ) (words : List (List ℕ)) (read count last : ℕ) (a : IsAscending n words read count last) where
  module _ (word : List ℕ) (within : read < length words) (is : word ≡ get_or words read word) where
    next_word : goes_on last (λ number. ascend n number (drop (read + 1) words)) (at_most n (natural_of word)) ≡ ascend n 0 words
    next_word =
        ap (λ w. goes_on last (λ number. ascend n number (drop (read + 1) words)) (at_most n (natural_of w))) is
        ∙ sym (at_drop_more (ascend n last) words read word within)
        ∙ a.same

    -- no number
    pub none_next : at_most n (natural_of word) ≡ None → false ≡ are_numbers n most words
    none_next h = refuse n most words (sym next_word ∙ ap (goes_on last (λ number. ascend n number (drop (read + 1) words))) h)

    -- one that isn't greater
    pub low_next : (number : ℕ) → at_most n (natural_of word) ≡ Some number → number ≤ last → false ≡ are_numbers n most words
    low_next number h low =
        refuse n most words
        (sym next_word
        ∙ ap (goes_on last (λ k. ascend n k (drop (read + 1) words))) h
        ∙ ap (λ b. b && ascend n number (drop (read + 1) words)) (le-ltb last number low))

    -- one that is
    pub number_next : (number : ℕ) → at_most n (natural_of word) ≡ Some number → last < number → number ≤ n
        → IsAscending n words (read + 1) (count + 1) number
    number_next number h more small =
        let counted = a.counted in
        let few = a.few in
        record {
          counted = omega (arith, counted);
          few = omega (arith, few, more);
          low = small;
          same =
              sym (sym next_word
              ∙ ap (goes_on last (λ k. ascend n k (drop (read + 1) words))) h
              ∙ ap (λ b. b && ascend n number (drop (read + 1) words)) (lt-ltb last number more));
        }

  -- all words were read
  pub all_read : read ≡ length words → (nat_le 2 count && nat_le count most) ≡ are_numbers n most words
  all_read end =
      let whole : true ≡ ascend n 0 words = sym (at_drop_all (ascend n last) words read (omega (arith, end))) ∙ a.same in
      let many : count ≡ length words = a.counted ∙ end in
      ap (λ k. nat_le 2 k && nat_le k most) many ∙ ap (λ b. b && (nat_le 2 (length words) && nat_le (length words) most)) whole

-- The names and lines of the cell make a script.
use Rattle.std.proofs.Common.{◌≡◌, ℕ, zero, suc, ◌+◌, ◌≤◌, ◌<◌, ◌-◌, ◌^◌, ◌%◌, ◌==◌, ◌&&◌, nat_le, nat_lt, ℤ, pos, Bool, true, false, if◌then◌else◌, List, [], ◌∷◌, ◌++◌, length, map, refl, sym, ap, ◌∙◌, arith}
use Rattle.std.specs.List.{list_all, flat_map, range_with_len}
use Rattle.action_script.specs.declared.forms.form.Form.{Form}
use Rattle.action_script.specs.declared.forms.form.Form.TheVariants as form
use Rattle.action_script.specs.declared.lines.kind.Section.TheVariants as section
use Rattle.action_script.specs.Forms.Printing.{form_line, form_names, is_short, is_sound, lead_to_top, AreScript}
use Rattle.action_script.specs.Words.NumberedNames.{is_among, with_names}
use Rattle.cell_workload.specs.CellNames.{cell_names, arm, out, plate, scrap, table}
use Rattle.cell_workload.specs.CellLines.{cell_lines}
use Rattle.cell_workload.specs.CellScript.{cell_forms, most_cycles, play_line, played, players}
use Rattle.std.proofs.lemmas.Bool.{and_from, and_parts, le-leb, leb-true, ltb-true}
use Rattle.std.proofs.lemmas.Fmt.{length-decimal-le, length_signed_le}
use Rattle.std.specs.Fmt.{decimal, signed_decimal}
use lib.Signed.{mag}
use Rattle.caa_base.specs.Written.Names.{name_at}
use Rattle.std.proofs.lemmas.List.{length-append, length-map}
use Rattle.std.proofs.lemmas.List.FromFn.{length-range_with_len, map-range_with_len_more}

-- ---- one play

sound_play : (tenth fifth : Bool) → is_sound cell_names (form.Play (played tenth fifth) players) ≡ true
sound_play true fifth = refl
sound_play false true = refl
sound_play false false = refl

short_play : (tenth fifth : Bool) → is_short cell_names (form.Play (played tenth fifth) players) ≡ true
short_play true fifth = refl
short_play false true = refl
short_play false false = refl

named_play : (tenth fifth : Bool) → list_all (is_among cell_names) (form_names cell_names (form.Play (played tenth fifth) players)) ≡ true
named_play true fifth = refl
named_play false true = refl
named_play false false = refl

-- ---- all plays

leads : (cycles : List ℕ) → lead_to_top section.Top (map play_line cycles) ≡ true
leads [] = refl
leads (cycle ∷ cycles) = leads cycles

sounds : (cycles : List ℕ) → list_all (is_sound cell_names) (map play_line cycles) ≡ true
sounds [] = refl
sounds (cycle ∷ cycles) =
    and_from (is_sound cell_names (play_line cycle)) (list_all (is_sound cell_names) (map play_line cycles))
    (sound_play (cycle % 10 == 0) (cycle % 5 == 0)) (sounds cycles)

shorts : (cycles : List ℕ) → list_all (is_short cell_names) (map play_line cycles) ≡ true
shorts [] = refl
shorts (cycle ∷ cycles) =
    and_from (is_short cell_names (play_line cycle)) (list_all (is_short cell_names) (map play_line cycles))
    (short_play (cycle % 10 == 0) (cycle % 5 == 0)) (shorts cycles)

-- words that are there add nothing
none_new : (words more : List (List ℕ)) → list_all (is_among cell_names) words ≡ true → with_names cell_names (words ++ more)
    ≡ with_names cell_names more
none_new [] more among = refl
none_new (word ∷ words) more among =
    let p = and_parts (is_among cell_names word) (list_all (is_among cell_names) words) among in
    ap (λ (b : Bool). with_names (if b then cell_names else cell_names ++ word ∷ []) (words ++ more)) p.0 ∙ none_new words more p.1

none_of_plays : (cycles : List ℕ) → with_names cell_names (flat_map (form_names cell_names) (map play_line cycles)) ≡ cell_names
none_of_plays [] = refl
none_of_plays (cycle ∷ cycles) =
    none_new (form_names cell_names (play_line cycle)) (flat_map (form_names cell_names) (map play_line cycles))
    (named_play (cycle % 10 == 0) (cycle % 5 == 0))
    ∙ none_of_plays cycles

-- ---- lines with a value, whose text isn't computed

module _ (n : ℕ) (few : length (name_at cell_names n) ≤ 32) (v : ℤ) (small : mag v < 10) where
  value_few : length (signed_decimal v ++ []) ≤ 3
  value_few =
      let digits = length_signed_le 2 v (omega (arith, small)) (omega (arith, small)) in
      let line = length-append (signed_decimal v) [] in
      omega (arith, digits, line)

  fields_few : length (name_at cell_names n ++ (32 ∷ (signed_decimal v ++ []))) ≤ 40
  fields_few =
      let line = length-append (name_at cell_names n) (32 ∷ (signed_decimal v ++ [])) in
      let value = value_few in
      omega (arith, line, value, few)

  short_object : is_short cell_names (form.Object n v) ≡ true
  short_object = let fields = fields_few in le-leb (length (form_line cell_names (form.Object n v))) 16384 (omega (arith, fields))

  short_put : is_short cell_names (form.PutStep n v) ≡ true
  short_put = let fields = fields_few in le-leb (length (form_line cell_names (form.PutStep n v))) 16384 (omega (arith, fields))

  short_add : is_short cell_names (form.AddStep n v) ≡ true
  short_add = let fields = fields_few in le-leb (length (form_line cell_names (form.AddStep n v))) 16384 (omega (arith, fields))

short_work : is_short cell_names (form.WorkStep 10) ≡ true
short_work =
    let digits = length-decimal-le 2 10 (omega arith) (ltb-true 10 100 refl) (ltb-true 10 (2 ^ 64) refl) in
    let line = length-append (decimal 10) [] in
    le-leb (length (form_line cell_names (form.WorkStep 10))) 16384 (omega (arith, digits, line))

object_short : (n : ℕ) → nat_le (length (name_at cell_names n)) 32 ≡ true → is_short cell_names (form.Object n (pos 0)) ≡ true
object_short n few = short_object n (leb-true (length (name_at cell_names n)) 32 few) (pos 0) (ltb-true 0 10 refl)

put_short : (n v : ℕ) → nat_le (length (name_at cell_names n)) 32 ≡ true → nat_lt v 10 ≡ true
    → is_short cell_names (form.PutStep n (pos v)) ≡ true
put_short n v few small = short_put n (leb-true (length (name_at cell_names n)) 32 few) (pos v) (ltb-true v 10 small)

add_short : (n : ℕ) → nat_le (length (name_at cell_names n)) 32 ≡ true → is_short cell_names (form.AddStep n (pos 1)) ≡ true
add_short n few = short_add n (leb-true (length (name_at cell_names n)) 32 few) (pos 1) (ltb-true 1 10 refl)

-- the lines before the plays: those with a value, one after another; the others compute
also : (b rest : Bool) → b ≡ true → rest ≡ true → (b && rest) ≡ true
also b rest = and_from b rest

lines_short : (rest : List Form) → list_all (is_short cell_names) rest ≡ true → list_all (is_short cell_names) (cell_lines ++ rest) ≡ true
lines_short rest more =
    also _ _ (object_short table refl) (
    also _ _ (object_short arm refl) (
    also _ _ (object_short plate refl) (
    also _ _ (object_short out refl) (
    also _ _ (object_short scrap refl) (
    also _ _ (put_short table 1 refl refl) (
    also _ _ (put_short arm 1 refl refl) (
    also _ _ (put_short arm 0 refl refl) (
    also _ _ (put_short plate 1 refl refl) (
    also _ _ (add_short out refl) (
    also _ _ (short_work) (
    also _ _ (put_short arm 0 refl refl) (
    also _ _ (add_short scrap refl) (
    also _ _ (put_short table 0 refl refl) (
    also _ _ (put_short plate 0 refl refl) (
    also _ _ (put_short table 0 refl refl) (
    also _ _ (put_short plate 0 refl refl) (
    also _ _ (put_short plate 9 refl refl) (
    more))))))))))))))))))

-- ---- the script

pub are_script : (cycles : ℕ) → cycles ≤ most_cycles → AreScript cell_names (cell_forms cycles)
are_script cycles few =
    let numbers = range_with_len 1 cycles in
    let long = length-append cell_lines (map play_line numbers) in
    let plays = length-map numbers play_line in
    let counted = length-range_with_len 1 cycles in
    record {
      few_names = ltb-true 30 (2 ^ 32) refl;
      few_forms = omega (arith, long, plays, counted, few);
      lead = leads numbers;
      sound = sounds numbers;
      short = lines_short (map play_line numbers) (shorts numbers);
      order = none_of_plays numbers;
    }

-- one more play
pub plays_more : (cycle : ℕ) → 1 ≤ cycle → map play_line (range_with_len 1 (cycle + 1 - 1))
    ≡ map play_line (range_with_len 1 (cycle - 1)) ++ play_line cycle ∷ []
plays_more zero some = absurd (omega (arith, some))
plays_more (suc n) some =
    let more : suc n + 1 - 1 ≡ n + 1 = omega arith in
    let less : suc n - 1 ≡ n = omega arith in
    ap (λ k. map play_line (range_with_len 1 k)) more
    ∙ map-range_with_len_more play_line 1 n (suc n) (omega arith)
    ∙ ap (λ k. map play_line (range_with_len 1 k) ++ play_line (suc n) ∷ []) (sym less)

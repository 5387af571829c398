-- The line of an entry is short where names are names by the grammar.
use Rattle.std.proofs.Common.{◌≡◌, ◌⊎◌, inl, inr, ℕ, ◌<◌, ◌≤◌, ◌+◌, ◌*◌, ◌^◌, ◌==◌, nat_le, Bool, true, false, if◌then◌else◌, List, [], length, Option, Some, None, refl, ap, arith}
use Rattle.std.specs.Option.{unwrap_or}
use Rattle.std.proofs.lemmas.Bool.{and_parts, cases_lt, eqb-true, leb-true}
use Rattle.std.proofs.lemmas.List.{get_or_past}
use Rattle.caa_base.specs.Written.Limits.{most_name_bytes}
use Rattle.caa_base.specs.Written.Marks.{naming_mark}
use Rattle.caa_base.specs.Written.Names.{begins_with_letter, is_name}
use Rattle.caa_base.specs.declared.written.entry.Entry.{Entry}
use Rattle.caa_base.specs.declared.written.entry.Kind.{Kind}
use Rattle.caa_base.specs.declared.written.entry.Kind.TheVariants as kind
use Rattle.place_plan.specs.Plans.PlanValue.{Plan}
use Rattle.place_plan.specs.Plans.Places.{no_graph, action_at, parent, graph_at, exception_name}
use Rattle.place_plan.specs.RulesOfJournals.WellFormed.{MayCarry, FieldsFit, IsWellFormed}
use Rattle.journal_text.specs.Texts.Naming.{are_names, is_well_named}
use Rattle.journal_text.specs.Texts.Room.{spare, most_line}
use Rattle.journal_text.specs.Texts.Text.{participant_name, object_name, marked_name, carried_name, entry_line}
use Rattle.journal_text.specs.inner.SaidNames.{said_name}
use Rattle.journal_text.proofs.OnTexts.LineLengths.{line_length}
use Rattle.journal_text.proofs.OnTexts.NamingLemmas.{spelled_name, names_parts, graph-named}

-- ---- names

name_short : (word : List ℕ) → is_name word ≡ true → length word ≤ 32
name_short word h = leb-true _ _ (and_parts (nat_le (length word) most_name_bytes) _ (and_parts (begins_with_letter word) _ h).1).0

names_short : (name_of : ℕ → List ℕ) (n i : ℕ) → are_names name_of n ≡ true → i < n → length (name_of i) ≤ 32
names_short name_of n i h l = name_short (name_of i) (spelled_name name_of n i h l)

module _ (plan : Plan) (named : is_well_named plan ≡ true) where
  object_short : (o : ℕ) → o < length plan.objects → length (object_name plan o) ≤ 32
  object_short o l = names_short (object_name plan) (length plan.objects) o (names_parts plan named).1 l

  exception_short : (g x : ℕ) → x < (graph_at plan g).count → length (exception_name plan g x) ≤ 32
  exception_short g x l = by (cases_lt g (length plan.graphs))
    where
      by : (g < length plan.graphs) ⊎ (length plan.graphs ≤ g) → length (exception_name plan g x) ≤ 32
      by (inl within) = names_short (exception_name plan g) (graph_at plan g).count x (graph-named plan g named within) l
      by (inr past) =
          let none : (graph_at plan g).count ≡ 0 = ap (λ row. row.graph.count) (get_or_past plan.graphs g no_graph past) in
          absurd (omega (arith, none, l))

  marked_short : (g : ℕ) (e : Entry) → (e.mark ≡ naming_mark → e.arg < (graph_at plan g).count)
      → length (unwrap_or (marked_name plan g e) []) ≤ 32
  marked_short g e within = by (e.mark == naming_mark) refl
    where
      by : (b : Bool) → (e.mark == naming_mark) ≡ b
          → length (unwrap_or (if b then Some (exception_name plan g e.arg) else None) []) ≤ 32
      by true is = exception_short g e.arg (within (eqb-true _ _ is))
      by false is = omega arith

  carried_short : (outer : Option ℕ) (e : Entry) → MayCarry plan outer e → length (unwrap_or (carried_name plan outer e) []) ≤ 32
  carried_short None e h = omega arith
  carried_short (Some q) e h = marked_short (action_at plan q).internal e h.named

  said_short : (e : Entry) (k : Kind) → FieldsFit k plan e → length (said_name k plan e) ≤ 32
  said_short e kind.Arrive h = omega arith
  said_short e kind.Withdraw h = omega arith
  said_short e kind.Start h = omega arith
  said_short e kind.Read h = object_short e.arg h.0.arg
  said_short e kind.Work h = omega arith
  said_short e kind.Write h = object_short e.arg h.0.arg
  said_short e kind.Check h = omega arith
  said_short e kind.PutFault h = object_short e.arg h.0.arg
  said_short e kind.Raise h = exception_short (action_at plan e.place).internal e.arg h.arg
  said_short e kind.Inform h = omega arith
  said_short e kind.Resolve h = exception_short (action_at plan e.place).internal e.arg h.arg
  said_short e kind.Handle h = exception_short (action_at plan e.place).internal e.arg h.arg
  said_short e kind.Verdict h = marked_short (action_at plan e.place).interface e h.named
  said_short e kind.Abort h = marked_short (action_at plan e.place).interface e h.named
  said_short e kind.Undo h = omega arith
  said_short e kind.Restore h = object_short e.arg h.0.arg
  said_short e kind.End h = marked_short (action_at plan e.place).interface e h.named
  said_short e kind.Leave h = carried_short (parent plan e.place) e h

  -- ---- lines

  pub line_short : (e : Entry) → IsWellFormed plan e → length plan.places < 2 ^ 32 → length (entry_line plan e) ≤ most_line
  line_short e fit few =
      let maker : length (participant_name plan e.by) ≤ 32 =
      names_short (participant_name plan) (length plan.participants) e.by (names_parts plan named).0 fit.by in
      omega (arith, line_length plan e fit few, maker, said_short e e.kind fit.fields)

  -- so it fits behind those of the entries before it, where there is room for that of each
  pub line_fits : (e : Entry) → IsWellFormed plan e → length plan.places < 2 ^ 32 → (at index count size : ℕ)
      → at ≤ most_line * index → index < count → most_line * count + spare ≤ size → at + length (entry_line plan e) + spare ≤ size
  line_fits e fit few at index count size before l room = omega (arith, line_short e fit few, before, l, room)

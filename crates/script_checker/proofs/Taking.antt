-- Lines that are taken one by one.
use Rattle.std.proofs.Common.{◌≡◌, ◌≢◌, ℕ, zero, suc, ◌+◌, ◌<◌, ◌≤◌, List, [], ◌∷◌, ◌++◌, length, take, drop, get_or, Err, Option, Some, IfSome, refl, sym, ap, ◌∙◌, subst, arith, add-one}
use Rattle.std.proofs.Math.Seq.{drop-cons, take-suc}
use Rattle.std.proofs.lemmas.List.{take-append-drop, take_all}
use Rattle.place_plan.specs.declared.drafts.draft_rows.GraphRow.{GraphRow}
use Rattle.place_plan.specs.Plans.PlanValue.{Plan}
use Rattle.place_plan.specs.Plans.Unfolding.{plan_of}
use Rattle.action_script.specs.declared.forms.script.Line.{Line}
use Rattle.action_script.specs.Forms.ScriptValue.{Script}
use Rattle.script_checker.specs.declared.check_error.CheckCause.{CheckCause}
use Rattle.script_checker.specs.declared.check_error.CheckCause.TheVariants as cause
use Rattle.script_checker.specs.declared.check_error.CheckError.{CheckError}
use Rattle.script_checker.specs.declared.declared.SoFar.{SoFar}
use Rattle.script_checker.specs.declared.declared.Declared.{Declared}
use Rattle.script_checker.specs.DeclaredSoFar.{nothing_yet}
use Rattle.script_checker.specs.After.{settled_block, settled, after}
use Rattle.script_checker.specs.InAction.{goes_on}
use Rattle.script_checker.specs.RefusedLines.{IsRefusedAt, IsRefusedLine}
use Rattle.script_checker.specs.declared.declared.Block.{Block}
use Rattle.script_checker.specs.inner.Rows.{parted}
use Rattle.script_checker.specs.Causes.{number_of}
use Rattle.script_checker.specs.Compiled.{IsAccepted, AreAccepted, IsLeastCause, declared_after, AreRowsOf, IsDeclared, IsDraftOf, IsPlanOf, IsFirstRefused, IsAnswer}
use Rattle.script_checker.specs.Compiled.IsAnswer.{refused, wanting}

-- the first n lines were taken
pub record Taken (names : List (List ℕ)) (lines : List Line) (n : ℕ) (s : SoFar) (made : List GraphRow) : Type 0 where
  pub accepted : AreAccepted names (nothing_yet names) (take n lines)
  pub declared : s ≡ declared_after names (nothing_yet names) (take n lines)
  pub rows : AreRowsOf names s.declared.graphs made

-- before the first line
pub none_taken : (script : Script) (names : List (List ℕ)) (lines : List Line) (s : SoFar) (rows : List GraphRow) → names ≡ script.names
    → s ≡ nothing_yet script.names → AreRowsOf script.names s.declared.graphs rows → Taken names lines 0 s rows
none_taken script names lines s rows en begun r = record {
  accepted = tt;
  declared = begun ∙ ap nothing_yet (sym en);
  rows = subst (λ (names : List (List ℕ)). AreRowsOf names s.declared.graphs rows) (sym en) r;
}

accepted_push : (names : List (List ℕ)) (s : SoFar) (lines : List Line) (line : Line) → AreAccepted names s lines
    → IsAccepted (declared_after names s lines) line.form → AreAccepted names s (lines ++ line ∷ [])
accepted_push names s [] line h a = (a, tt)
accepted_push names s (l ∷ lines) line h a = (h.0, accepted_push names (after names s l.form) lines line h.1 a)

declared_push : (names : List (List ℕ)) (s : SoFar) (lines : List Line) (line : Line)
    → declared_after names s (lines ++ line ∷ []) ≡ after names (declared_after names s lines) line.form
declared_push names s [] line = refl
declared_push names s (l ∷ lines) line = declared_push names (after names s l.form) lines line

-- one line more
pub taken_more : (names : List (List ℕ)) (lines : List Line) (n : ℕ) (s t : SoFar) (rows more : List GraphRow) (line : Line)
    → n < length lines → line ≡ get_or lines n line → Taken names lines n s rows → IsAccepted s line.form → t ≡ after names s line.form
    → AreRowsOf names t.declared.graphs more → Taken names lines (n + 1) t more
taken_more names lines n s t rows more line l is h a e r =
    let whole : take (n + 1) lines ≡ take n lines ++ line ∷ [] =
    rw add-one (take-suc lines n line l ∙ ap (λ (x : Line). take n lines ++ x ∷ []) (sym is)) in
    record {
      accepted =
          subst (λ (some : List Line). AreAccepted names (nothing_yet names) some) (sym whole)
          (accepted_push names (nothing_yet names) (take n lines) line h.accepted
          (subst (λ (s : SoFar). IsAccepted s line.form) h.declared a));
      declared =
          e ∙ ap (λ (s : SoFar). after names s line.form) h.declared ∙ sym (declared_push names (nothing_yet names) (take n lines) line)
          ∙ ap (λ (some : List Line). declared_after names (nothing_yet names) some) (sym whole);
      rows = r;
    }

cut : (lines : List Line) (n : ℕ) (line : Line) → n < length lines → line ≡ get_or lines n line
    → lines ≡ take n lines ++ line ∷ drop (n + 1) lines
cut lines n line l is =
    sym (take-append-drop n lines) ∙ ap (λ (some : List Line). take n lines ++ some)
    (drop-cons lines n line l ∙ ap (λ (x : Line). x ∷ drop (suc n) lines) (sym is) ∙ sym (ap (λ (k : ℕ). line ∷ drop k lines) (add-one n)))

-- the line after these is refused
pub line_refused : (script : Script) (names : List (List ℕ)) (lines : List Line) (n : ℕ) (s : SoFar) (rows : List GraphRow)
    (line : Line) (c : CheckCause) → names ≡ script.names → lines ≡ script.lines → n < length lines → line ≡ get_or lines n line
    → Taken names lines n s rows → IsLeastCause s line.form c → IsFirstRefused script (record { line = line.number; cause = c })
line_refused script names lines n s rows line c en el l is h least = record {
  before = take n lines;
  line = line;
  rest = drop (n + 1) lines;
  place = sym el ∙ cut lines n line l is;
  accepted = subst (λ (names : List (List ℕ)). AreAccepted names (nothing_yet names) (take n lines)) en h.accepted;
  number = refl;
  least =
      subst (λ (s : SoFar). IsLeastCause s line.form c)
      (h.declared ∙ ap (λ (names : List (List ℕ)). declared_after names (nothing_yet names) (take n lines)) en) least;
}

-- which is the answer, unless no memory was found
pub answer_refused : (script : Script) (error : CheckError) → (error.cause ≢ cause.OutOfMemory → IsFirstRefused script error)
    → IsAnswer script (Err error)
answer_refused script error first = by error.cause refl
  where
    by : (c : CheckCause) → error.cause ≡ c → IsAnswer script (Err error)
    by cause.OutOfMemory e = wanting e
    by c e = refused (first (λ none. let n : number_of c ≡ 21 = ap number_of (sym e ∙ none) in omega arith))

-- all lines were taken
pub all_declared : (script : Script) (names : List (List ℕ)) (lines : List Line) (n : ℕ) (s : SoFar) (rows : List GraphRow)
    → names ≡ script.names → lines ≡ script.lines → length lines ≤ n → Taken names lines n s rows → IsDeclared script s.declared rows
all_declared script names lines n s rows en el l h =
    let whole : take n lines ≡ script.lines = take_all n lines l ∙ el in
    record {
      accepted =
          subst (λ (lines : List Line). AreAccepted script.names (nothing_yet script.names) lines) whole
          (subst (λ (names : List (List ℕ)). AreAccepted names (nothing_yet names) (take n lines)) en h.accepted);
      declared =
          ap (λ (s : SoFar). s.declared)
          (h.declared ∙ ap (λ (names : List (List ℕ)). declared_after names (nothing_yet names) (take n lines)) en
          ∙ ap (λ (lines : List Line). declared_after script.names (nothing_yet script.names) lines) whole);
      graphs = subst (λ (names : List (List ℕ)). AreRowsOf names s.declared.graphs rows) en h.rows;
    }

-- ---- the first line that is refused, by how many stand before it

-- the line after these is refused
pub refused_line : (names : List (List ℕ)) (lines : List Line) (n : ℕ) (s : SoFar) (rows : List GraphRow) (line : Line) (c : CheckCause)
    → n < length lines → line ≡ get_or lines n line → Taken names lines n s rows → IsLeastCause s line.form c
    → IsRefusedAt names lines n c
refused_line names lines n s rows line c l is h least = record {
  line = line;
  rest = drop (n + 1) lines;
  place = cut lines n line l is;
  within = l;
  accepted = h.accepted;
  least = subst (λ (s : SoFar). IsLeastCause s line.form c) h.declared least;
}

-- all of some lines were taken
pub all_taken : (names : List (List ℕ)) (lines : List Line) (n : ℕ) (s : SoFar) (rows : List GraphRow) → length lines ≤ n
    → Taken names lines n s rows → s ≡ declared_after names (nothing_yet names) lines
all_taken names lines n s rows l h =
    h.declared ∙ ap (λ (some : List Line). declared_after names (nothing_yet names) some) (take_all n lines l)

pub all_accepted : (names : List (List ℕ)) (lines : List Line) (n : ℕ) (s : SoFar) (rows : List GraphRow) → length lines ≤ n
    → Taken names lines n s rows → AreAccepted names (nothing_yet names) lines
all_accepted names lines n s rows l h =
    subst (λ (some : List Line). AreAccepted names (nothing_yet names) some) (take_all n lines l) h.accepted

-- the line that stands behind so many
pub line_behind : (lines : List Line) (n : ℕ) (line : Line) (rest : List Line) (d : Line) → n < length lines
    → lines ≡ take n lines ++ line ∷ rest → get_or lines n d ≡ line
line_behind [] n line rest d within place = absurd (omega (arith, within))
line_behind (l ∷ lines) zero line rest d within place = cc
line_behind (l ∷ lines) (suc n) line rest d within place = line_behind lines n line rest d (omega (arith, within)) cc

-- a cause that was found is that of the line behind so many
pub told_at : (script : Script) (found : Option (ℕ × CheckCause)) (index : ℕ) (c : CheckCause) → found ≡ Some (index, c)
    → IfSome found (λ f. IsRefusedAt script.names script.lines f.0 f.1) → IsRefusedAt script.names script.lines index c
told_at script found index c e h = subst (λ o. IfSome o (λ f. IsRefusedAt script.names script.lines f.0 f.1)) e h

-- and this was declared when it came
pub refused_whole : (script : Script) (lines : List Line) (index : ℕ) (c : CheckCause) (before : SoFar) (b : Block) (line : Line)
    → IsRefusedAt script.names script.lines index c
    → before ≡ declared_after script.names (nothing_yet script.names) (take index script.lines) → lines ≡ script.lines
    → b ≡ settled_block (goes_on (get_or lines index line).form) before.block
    → IsRefusedLine script (record { index = index; cause = c; so_far = record { declared = before.declared; block = b } })
refused_whole script lines index c before b line at is el now =
    let same : get_or lines index line ≡ at.line =
    ap (λ (some : List Line). get_or some index line) el
    ∙ line_behind script.lines index at.line at.rest line at.within at.place in
    record {
      at = at;
      so_far =
          ap (λ (b : Block). record { declared = before.declared; block = b })
          (now ∙ ap (λ (l : Line). settled_block (goes_on l.form) before.block) same)
          ∙ ap (λ (s : SoFar). settled s at.line.form) is;
    }

module _ (script : Script) (d : Declared) (rows : List GraphRow) (h : IsDeclared script d rows) where
  -- the draft of what they declare
  pub drafted : IsDraftOf script.names (declared_after script.names (nothing_yet script.names) script.lines).declared (parted d rows)
  drafted = subst (λ (t : Declared). IsDraftOf script.names t (parted d rows)) h.declared (record {
    participants = refl;
    objects = refl;
    graphs = h.graphs;
    actions = refl;
    plays = refl;
    drills = refl;
    watches = refl;
  })

  -- and its plan
  pub planned_by : (plan : Plan) → plan ≡ plan_of (parted d rows) → IsPlanOf script plan
  planned_by plan e = record { accepted = h.accepted; draft = parted d rows; declared = drafted; unfolded = e }

-- The least cause of a line is the one that is found first.
use Rattle.std.proofs.Common.{◌≡◌, ℕ, Bool, true, false, Option, Some, None, unwrap_or, refl, sym, ap, ◌∙◌, subst, arith, length}
use Rattle.std.proofs.lemmas.Bool.{false≢true, false_from_ne_true}
use Rattle.exception_graph.specs.Chains.{IsFirstInCycle}
use Rattle.action_script.specs.declared.forms.form.Form.{Form}
use Rattle.action_script.specs.declared.forms.form.Form.TheVariants as form
use Rattle.script_checker.specs.declared.check_error.CheckCause.{CheckCause}
use Rattle.script_checker.specs.declared.check_error.CheckCause.TheVariants as cause
use Rattle.script_checker.specs.declared.declared.SoFar.{SoFar}
use Rattle.script_checker.specs.declared.declared.Declared.{Declared}
use Rattle.script_checker.specs.declared.declared.Block.{Block}
use Rattle.script_checker.specs.declared.declared.Block.TheVariants as block
use Rattle.script_checker.specs.declared.open_graph.DeclaredGraph.{DeclaredGraph}
use Rattle.script_checker.specs.InAction.{enters_otherwise_in_action, not_held_in_action, too_deep_in_action, other_face_in_action}
use Rattle.script_checker.specs.Causes.{HasCause, is_unknown, is_twice, is_unfilled, fills_twice, is_past_limit, is_past_bound, in_action, EndsGraph, number_of}
use Rattle.script_checker.specs.inner.Chosen.{cause_if, size_cause, part_cause, first_cause, is_end}
use Rattle.script_checker.specs.inner.Ends.{IsGraphRefusal, IsFaultless}
use Rattle.script_checker.specs.Compiled.{HasNoneBelow, IsLeast, HasNone}

module _ (s : SoFar) (f : Form) where
  pub passes_start : HasNoneBelow s f 10
  passes_start cause.Unknown l h = absurd (omega arith)
  passes_start cause.Twice l h = absurd (omega arith)
  passes_start (cause.Cycle at) l h = absurd (omega arith)
  passes_start (cause.NoLeast a b) l h = absurd (omega arith)
  passes_start cause.RoleUnfilled l h = absurd (omega arith)
  passes_start cause.RoleTwice l h = absurd (omega arith)
  passes_start cause.NestOrder l h = absurd (omega arith)
  passes_start cause.ObjectNotHeld l h = absurd (omega arith)
  passes_start cause.TooDeep l h = absurd (omega arith)
  passes_start cause.Limit l h = absurd (omega arith)
  passes_start cause.JournalBound l h = absurd (omega arith)
  passes_start cause.AlternateFace l h = absurd (omega arith)
  passes_start cause.OutOfMemory l h = h

  pub passes_unknown : is_unknown s.declared s.block f ≡ false → HasNoneBelow s f 10 → HasNoneBelow s f 11
  passes_unknown e p cause.Unknown l h = false≢true (sym e ∙ h)
  passes_unknown e p other l h = p other (omega arith) h

  pub passes_twice : is_twice s.declared s.block f ≡ false → HasNoneBelow s f 11 → HasNoneBelow s f 12
  passes_twice e p cause.Twice l h = false≢true (sym e ∙ h)
  passes_twice e p other l h = p other (omega arith) h

  pub passes_graph : ((at : ℕ) → ¬ (HasCause s f (cause.Cycle at))) → ((a b : ℕ) → ¬ (HasCause s f (cause.NoLeast a b)))
      → HasNoneBelow s f 12 → HasNoneBelow s f 14
  passes_graph cycle least p (cause.Cycle at) l h = cycle at h
  passes_graph cycle least p (cause.NoLeast a b) l h = least a b h
  passes_graph cycle least p other l h = p other (omega arith) h

  passes_unfilled : is_unfilled s.declared s.block f ≡ false → HasNoneBelow s f 14 → HasNoneBelow s f 15
  passes_unfilled e p cause.RoleUnfilled l h = false≢true (sym e ∙ h)
  passes_unfilled e p other l h = p other (omega arith) h

  passes_filled : fills_twice s.block f ≡ false → HasNoneBelow s f 15 → HasNoneBelow s f 16
  passes_filled e p cause.RoleTwice l h = false≢true (sym e ∙ h)
  passes_filled e p other l h = p other (omega arith) h

  passes_order : in_action (λ a. enters_otherwise_in_action a f) s.block ≡ false → HasNoneBelow s f 16 → HasNoneBelow s f 17
  passes_order e p cause.NestOrder l h = false≢true (sym e ∙ h)
  passes_order e p other l h = p other (omega arith) h

  passes_held : in_action (λ a. not_held_in_action s.declared a f) s.block ≡ false → HasNoneBelow s f 17 → HasNoneBelow s f 18
  passes_held e p cause.ObjectNotHeld l h = false≢true (sym e ∙ h)
  passes_held e p other l h = p other (omega arith) h

  passes_deep : in_action (λ a. too_deep_in_action s.declared f) s.block ≡ false → HasNoneBelow s f 18 → HasNoneBelow s f 19
  passes_deep e p cause.TooDeep l h = false≢true (sym e ∙ h)
  passes_deep e p other l h = p other (omega arith) h

  passes_limit : is_past_limit s.declared s.block f ≡ false → HasNoneBelow s f 19 → HasNoneBelow s f 20
  passes_limit e p cause.Limit l h = false≢true (sym e ∙ h)
  passes_limit e p other l h = p other (omega arith) h

  passes_bound : is_past_bound s.declared s.block f ≡ false → HasNoneBelow s f 20 → HasNoneBelow s f 22
  passes_bound e p cause.JournalBound l h = false≢true (sym e ∙ h)
  passes_bound e p cause.OutOfMemory l h = h
  passes_bound e p other l h = p other (omega arith) h

  passes_face : in_action (λ a. other_face_in_action s.declared a f) s.block ≡ false → HasNoneBelow s f 22 → HasNone s f
  passes_face e p cause.AlternateFace h = false≢true (sym e ∙ h)
  passes_face e p other h = p other (omega arith) h

  -- ---- the choice

  -- a cause that is here, or else a later one
  chain : (b : Bool) (here c : CheckCause) (later : Option CheckCause) → HasNoneBelow s f (number_of here) → (b ≡ true → HasCause s f here)
      → (b ≡ false → later ≡ Some c → IsLeast s f c) → cause_if b here later ≡ Some c → IsLeast s f c
  chain true here c later p has further e =
      subst (λ k. IsLeast s f k) (ap (λ o. unwrap_or o here) e) (record { has = has refl; lesser = p })
  chain false here c later p has further e = further refl e

  none_here : (b : Bool) (here : CheckCause) (later : Option CheckCause) → cause_if b here later ≡ None → (b ≡ false) × (later ≡ None)
  none_here true here later e = absurd cc
  none_here false here later e = (refl, e)

  -- where no cause stands
  nothing : (c : CheckCause) → ◌≡◌ {A = Option CheckCause} None (Some c) → IsLeast s f c
  nothing c e = absurd cc

  least_size : (c : CheckCause) → HasNoneBelow s f 18 → size_cause s.declared s.block f ≡ Some c → IsLeast s f c
  least_size c p e =
      chain (in_action (λ a. too_deep_in_action s.declared f) s.block) cause.TooDeep c _ p (λ h. h)
      (λ d e. let p1 = passes_deep d p in chain (is_past_limit s.declared s.block f) cause.Limit c _ p1 (λ h. h)
      (λ l e. let p2 = passes_limit l p1 in chain (is_past_bound s.declared s.block f) cause.JournalBound c _ p2 (λ h. h)
      (λ b e. let p3 = passes_bound b p2 in chain (in_action (λ a. other_face_in_action s.declared a f) s.block)
      cause.AlternateFace c None p3 (λ h. h) (λ o e. nothing c e) e) e) e)
      e

  none_size : HasNoneBelow s f 18 → size_cause s.declared s.block f ≡ None → HasNone s f
  none_size p e =
      let d =
      none_here (in_action (λ a. too_deep_in_action s.declared f) s.block) cause.TooDeep
      (cause_if (is_past_limit s.declared s.block f) cause.Limit
      (cause_if (is_past_bound s.declared s.block f) cause.JournalBound
      (cause_if (in_action (λ a. other_face_in_action s.declared a f) s.block) cause.AlternateFace None)))
      e in
      let l =
      none_here (is_past_limit s.declared s.block f) cause.Limit
      (cause_if (is_past_bound s.declared s.block f) cause.JournalBound
      (cause_if (in_action (λ a. other_face_in_action s.declared a f) s.block) cause.AlternateFace None))
      d.1 in
      let b =
      none_here (is_past_bound s.declared s.block f) cause.JournalBound
      (cause_if (in_action (λ a. other_face_in_action s.declared a f) s.block) cause.AlternateFace None) l.1 in
      let o = none_here (in_action (λ a. other_face_in_action s.declared a f) s.block) cause.AlternateFace None b.1 in
      passes_face o.0 (passes_bound b.0 (passes_limit l.0 (passes_deep d.0 p)))

  least_part : (c : CheckCause) → HasNoneBelow s f 14 → part_cause s.declared s.block f ≡ Some c → IsLeast s f c
  least_part c p e =
      chain (is_unfilled s.declared s.block f) cause.RoleUnfilled c _ p (λ h. h)
      (λ u e. let p1 = passes_unfilled u p in chain (fills_twice s.block f) cause.RoleTwice c _ p1 (λ h. h)
      (λ t e. let p2 = passes_filled t p1 in chain (in_action (λ a. enters_otherwise_in_action a f) s.block) cause.NestOrder c _ p2 (λ h. h)
      (λ n e. let p3 = passes_order n p2 in chain (in_action (λ a. not_held_in_action s.declared a f) s.block)
      cause.ObjectNotHeld c (size_cause s.declared s.block f) p3 (λ h. h)
      (λ o e. least_size c (passes_held o p3) e) e) e) e)
      e

  none_part : HasNoneBelow s f 14 → part_cause s.declared s.block f ≡ None → HasNone s f
  none_part p e =
      let u =
      none_here (is_unfilled s.declared s.block f) cause.RoleUnfilled
      (cause_if (fills_twice s.block f) cause.RoleTwice
      (cause_if (in_action (λ a. enters_otherwise_in_action a f) s.block) cause.NestOrder
      (cause_if (in_action (λ a. not_held_in_action s.declared a f) s.block) cause.ObjectNotHeld (size_cause s.declared s.block f))))
      e in
      let t =
      none_here (fills_twice s.block f) cause.RoleTwice
      (cause_if (in_action (λ a. enters_otherwise_in_action a f) s.block) cause.NestOrder
      (cause_if (in_action (λ a. not_held_in_action s.declared a f) s.block) cause.ObjectNotHeld (size_cause s.declared s.block f)))
      u.1 in
      let n =
      none_here (in_action (λ a. enters_otherwise_in_action a f) s.block) cause.NestOrder
      (cause_if (in_action (λ a. not_held_in_action s.declared a f) s.block) cause.ObjectNotHeld (size_cause s.declared s.block f))
      t.1 in
      let o =
      none_here (in_action (λ a. not_held_in_action s.declared a f) s.block) cause.ObjectNotHeld (size_cause s.declared s.block f)
      n.1 in
      none_size (passes_held o.0 (passes_order n.0 (passes_filled t.0 (passes_unfilled u.0 p)))) o.1

  -- ---- lines that end no block

  ends_none : (Holds : DeclaredGraph → Type 0) (b : Block) (f : Form) → is_end f ≡ false → EndsGraph Holds b f → ⊥
  ends_none Holds (block.Graph g) form.End e h = false≢true (sym e)
  ends_none Holds b f e h = h

  same : is_end f ≡ false → HasNoneBelow s f 12 → HasNoneBelow s f 14
  same e p = passes_graph (λ at h. ends_none _ s.block f e h) (λ a b h. ends_none _ s.block f e h) p

  pub least_first : is_end f ≡ false → (c : CheckCause) → first_cause s.declared s.block f ≡ Some c → IsLeast s f c
  least_first other c e =
      chain (is_unknown s.declared s.block f) cause.Unknown c _ passes_start (λ h. h)
      (λ u e. let p = passes_unknown u passes_start in
      chain (is_twice s.declared s.block f) cause.Twice c _ p (λ h. h) (λ t e. least_part c (same other (passes_twice t p)) e) e)
      e

  pub none_first : is_end f ≡ false → first_cause s.declared s.block f ≡ None → HasNone s f
  none_first other e =
      let u = none_here (is_unknown s.declared s.block f) cause.Unknown _ e in
      let t = none_here (is_twice s.declared s.block f) cause.Twice _ u.1 in
      none_part (same other (passes_twice t.0 (passes_unknown u.0 passes_start))) t.1

  -- what a line without cause hasn't
  pub known_in : HasNone s f → is_unknown s.declared s.block f ≡ false
  known_in h = false_from_ne_true (is_unknown s.declared s.block f) (λ e. h cause.Unknown e)

-- ---- the end of a graph

module _ (d : Declared) (g : DeclaredGraph) where
  abbrev in_graph : SoFar
  in_graph = record { declared = d; block = block.Graph g }

  below_cycle : HasNoneBelow in_graph form.End 12
  below_cycle = passes_twice in_graph form.End refl (passes_unknown in_graph form.End refl (passes_start in_graph form.End))

  -- why the graph is refused is the least cause of the line
  pub least_graph : (c : CheckCause) → (c ≡ cause.OutOfMemory → ⊥) → IsGraphRefusal (length g.exceptions) g.pairs c
      → IsLeast in_graph form.End c
  least_graph (cause.Cycle at) memory h = record { has = h; lesser = below_cycle }
  least_graph (cause.NoLeast a b) memory h = record { has = h; lesser = passes_cycle (λ at i. h.acyclic at i.in_range i.cycle) below_cycle }
    where
      passes_cycle : ((at : ℕ) → ¬ (IsFirstInCycle (length g.exceptions) g.pairs at)) → HasNoneBelow in_graph form.End 12
          → HasNoneBelow in_graph form.End 13
      passes_cycle free p (cause.Cycle at) l h = free at h
      passes_cycle free p other l h = p other (omega arith) h
  least_graph cause.OutOfMemory memory h = absurd (memory refl)
  least_graph other memory h = absurd h

  -- a faultless one has none
  pub none_graph : IsFaultless (length g.exceptions) g.pairs → HasNone in_graph form.End
  none_graph h (cause.Cycle at) k = h.acyclic at k
  none_graph h (cause.NoLeast a b) k = h.joined a b k
  none_graph h cause.OutOfMemory k = k
  none_graph h other k = false≢true k

-- the same where the graph is known to be the block
pub least_of_graph : (s : SoFar) (g : DeclaredGraph) → s.block ≡ block.Graph g → (c : CheckCause)
    → IsGraphRefusal (length g.exceptions) g.pairs c → (c ≡ cause.OutOfMemory → ⊥) → IsLeast s form.End c
least_of_graph s g e c h memory =
    subst (λ (b : Block). IsLeast (record { declared = s.declared; block = b }) form.End c) (sym e) (least_graph s.declared g c memory h)

pub none_of_graph : (s : SoFar) (g : DeclaredGraph) → s.block ≡ block.Graph g → IsFaultless (length g.exceptions) g.pairs
    → HasNone s form.End
none_of_graph s g e h =
    subst (λ (b : Block). HasNone (record { declared = s.declared; block = b }) form.End) (sym e) (none_graph s.declared g h)

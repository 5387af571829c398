-- What is known of an entry of a legal journal, and of what stands before it.
use Rattle.std.proofs.Common.{◌≡◌, ◌∙◌, ℕ, ◌+◌, ◌<◌, ◌==◌, ◌&&◌, ◌||◌, true, List, [], ◌∷◌, ap, sym, subst, length, reverse, take, get_or}
use Rattle.std.specs.Prelude.{pos, Some}
use Rattle.std.proofs.lemmas.List.{take_more, reverse-append}
use Rattle.std.proofs.lemmas.Option.{slice_get-get_or}
use Rattle.caa_base.specs.Written.Marks.{taken_mark}
use Rattle.caa_base.specs.declared.written.entry.Entry.{Entry}
use Rattle.caa_base.specs.declared.written.entry.Kind.{Kind}
use Rattle.caa_base.specs.declared.written.entry.Kind.TheVariants as kind
use Rattle.place_plan.specs.Plans.PlanValue.{Plan}
use Rattle.place_plan.specs.RulesOfJournals.Entries.{code_of}
use Rattle.place_plan.specs.RulesOfJournals.Journals.{LegalPast, is_put}
use Rattle.place_plan.specs.RulesOfJournals.Rules.{Row}
use Rattle.place_plan.specs.RulesOfJournals.Whereabouts.{inside}
use Rattle.journal_replay.proofs.Prefixes.{legal_front}
use Rattle.fault_trials.specs.Puts.{IsPutAt, spot_of}
use Rattle.fault_trials.specs.declared.puts.Put.{Put}

-- the kind of an entry is that of a put that the device took, where its mark is this
abbrev puts : Kind → ℕ → Type 0
puts k mark = ((code_of kind.Write == code_of k) || ((code_of kind.Restore == code_of k) && (mark == taken_mark))) ≡ true

-- who puts is in the place of the put
put_here : (k : Kind) (plan : Plan) (past : List Entry) (e : Entry) → Row k plan past e → puts k e.mark → inside plan past e.by ≡ Some e.place
put_here kind.Write plan past e row is = row.here
put_here kind.Restore plan past e row is = row.here
put_here kind.Arrive plan past e row is = absurd (cc)
put_here kind.Withdraw plan past e row is = absurd (cc)
put_here kind.Start plan past e row is = absurd (cc)
put_here kind.Read plan past e row is = absurd (cc)
put_here kind.Work plan past e row is = absurd (cc)
put_here kind.Check plan past e row is = absurd (cc)
put_here kind.PutFault plan past e row is = absurd (cc)
put_here kind.Raise plan past e row is = absurd (cc)
put_here kind.Inform plan past e row is = absurd (cc)
put_here kind.Resolve plan past e row is = absurd (cc)
put_here kind.Handle plan past e row is = absurd (cc)
put_here kind.Verdict plan past e row is = absurd (cc)
put_here kind.Abort plan past e row is = absurd (cc)
put_here kind.Undo plan past e row is = absurd (cc)
put_here kind.End plan past e row is = absurd (cc)
put_here kind.Leave plan past e row is = absurd (cc)

-- what stands past the last entry
abbrev pub blank : Entry
blank = record { kind = kind.Arrive; place = 0; by = 0; arg = 0; mark = 0; value = pos 0 }

-- the entries up to one more, the newest first
front_more : (es : List Entry) (i : ℕ) → i < length es → reverse (take (i + 1) es) ≡ get_or es i blank ∷ reverse (take i es)
front_more es i low = ap reverse (take_more es i blank low) ∙ reverse-append (take i es) (get_or es i blank ∷ [])

-- who made a put of a legal journal was in its place
pub put_is_here : (plan : Plan) (es : List Entry) (i : ℕ) → LegalPast plan (reverse es) → i < length es → is_put (get_or es i blank) ≡ true
    → inside plan (reverse (take i es)) (get_or es i blank).by ≡ Some (get_or es i blank).place
put_is_here plan es i legal low is =
    let front : LegalPast plan (get_or es i blank ∷ reverse (take i es)) =
    subst (LegalPast plan) (front_more es i low) (legal_front plan es (i + 1) legal) in
    put_here (get_or es i blank).kind plan (reverse (take i es)) (get_or es i blank) front.1 is

-- the entry i is a put, with what it stands for
pub put_stands : (plan : Plan) (es : List Entry) (i : ℕ) (p : Put) → i < length es → p.index ≡ i → p.entry ≡ get_or es i blank
    → is_put (get_or es i blank) ≡ true → p.spot ≡ spot_of plan (reverse (take i es)) (get_or es i blank) → IsPutAt plan es i p
put_stands plan es i p low at entry is spot = record {
  index = at;
  stands = slice_get-get_or es i blank low ∙ ap (λ e. Some e) (sym entry);
  taken = ap is_put entry ∙ is;
  spot = spot ∙ ap (spot_of plan (reverse (take i es))) (sym entry);
}

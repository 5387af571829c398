use Rattle.std.proofs.Common.{◌≡◌, true, List, Err, map, length, sym, ap, subst, ◌∙◌, arith}
use Rattle.std.specs.Bool.{IsTrue}
use Rattle.std.specs.List.{list_all}
use Rattle.std.proofs.lemmas.List.{length-map}
use Rattle.action_script.specs.declared.lines.field.Part.{Part}
use Rattle.action_script.specs.Lines.Kinds.{takes, parts_of}
use Rattle.action_script.specs.Lines.Spelling.{asked_of, is_right, field_of, trial_of}
use Rattle.action_script.proofs.OnLines.PlainLines.{said_right, fault_told, kind_takes, kind_short}
use Rattle.action_script.proofs.OnLines.Speaking.{length-asked_of}
use Rattle.action_script.proofs.lines.reader.Reader.take_said.Goals as goal

pub take_fields-requires : goal.take_fields-requires
take_fields-requires c =
    let short = kind_short c.args.self.now.section c.args.line.now c.args.kind (map (λ w. w.now) c.args.words.now) c.requires.kind in
    record { room = omega (arith, c.requires.room, short, length-map c.args.words.now (λ w. w.now)) }

pub returns-then-not-branch-clause-refused : goal.returns-then-not-branch-clause-refused
returns-then-not-branch-clause-refused c = λ known.
    let words = map (λ w. w.now) c.args.words.now in
    let tried : trial_of (asked_of (parts_of c.args.kind) words) ≡ Err c.in_ok-of_words.of_words =
    ap (λ (p : List Part). trial_of (asked_of p words)) (sym c.parts-then-not-branch.ensures) ∙ c.in_ok-of_words.ensures in
    fault_told c.args.self.now.section c.args.line.now c.args.kind words c.requires.kind c.in_ok-of_words.of_words tried ∙ ap Err
    (sym c.fault_of.ensures)

pub by-requires : goal.by-requires
by-requires c =
    let words = map (λ w. w.now) c.args.words.now in
    let asked = asked_of c.parts.result.now words in
    let fields : length c.deref.result.now ≡ length words =
    ap length (c.deref.ensures.value ∙ c.in_ok-take_fields.ensures.taken c.if-not-branch.false) ∙ length-map asked
    (field_of c.take_fields.new.names) ∙ length-asked_of c.parts.result.now words in
    subst (λ n. IsTrue (takes c.args.kind n)) (sym fields)
    (kind_takes c.args.self.now.section c.args.line.now c.args.kind words c.requires.kind)

pub returns-clause-says : goal.returns-clause-says
returns-clause-says c =
    let words = map (λ w. w.now) c.args.words.now in
    let right : list_all is_right (asked_of (parts_of c.args.kind) words) ≡ true =
    ap (λ (p : List Part). list_all is_right (asked_of p words)) (sym c.parts.ensures) ∙ sym c.in_ok-take_fields.ensures.right ∙
    c.if-not-branch.false in
    said_right c.args.self.now.section c.args.line.now c.args.kind words c.requires.kind right

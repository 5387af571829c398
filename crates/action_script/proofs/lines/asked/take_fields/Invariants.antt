use Rattle.std.proofs.Common.{◌≡◌, ◌+◌, ◌≤◌, drop, take, map, length}
use Rattle.std.specs.List.{list_all}
use Rattle.action_script.specs.Words.NumberedNames.{with_names}
use Rattle.action_script.specs.Lines.Spelling.{asked_of, is_right, names_of, field_of}
use Rattle.action_script.proofs.lines.asked.take_fields.Given as goal

abbrev pub invariant-loop-index : goal.invariant-loop-index
invariant-loop-index l =
    let asked = asked_of l.parts (map (λ w. w.now) l.words) in
    record {
      names : with_names l.names (names_of (drop l.index asked)) ≡ with_names l.initial.names (names_of asked);
      fields : l.fields.items ≡ map (field_of (with_names l.initial.names (names_of asked))) (take l.index asked);
      right : list_all is_right asked ≡ list_all is_right (drop l.index asked);
      few : length l.names ≤ length l.initial.names + l.index;
    }

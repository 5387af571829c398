-- When two things are one.
use Rattle.std.specs.Prelude.{◌==◌, Bool, false, ◌&&◌}
use Rattle.name_uses.specs.declared.thing.Thing.{Thing}
use Rattle.name_uses.specs.declared.thing.Thing.TheVariants as thing

-- they are of one kind, and have the same numbers
abbrev pub is_thing : Thing → Thing → Bool
is_thing (thing.Participant n) (thing.Participant m) = n == m
is_thing (thing.Object n) (thing.Object m) = n == m
is_thing (thing.Graph n) (thing.Graph m) = n == m
is_thing (thing.Action n) (thing.Action m) = n == m
is_thing (thing.Role a n) (thing.Role b m) = (a == b) && (n == m)
is_thing (thing.Nest a n) (thing.Nest b m) = (a == b) && (n == m)
is_thing (thing.Exception g n) (thing.Exception h m) = (g == h) && (n == m)
is_thing _ _ = false

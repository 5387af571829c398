-- How the rows of places fare where their lists grow, and where a place comes or gets its nested uses.
use Rattle.std.proofs.Common.{◌≡◌, ℕ, ◌<◌, ◌-◌, List, [], ◌∷◌, ◌++◌, length, take, drop, slice_index_or, slice_set, refl, sym, ap, ap₂, ◌∙◌, arith, append-nil, length-append}
use Rattle.std.proofs.lemmas.List.{take-append-le, drop-append-le, drop_at, take_all, length-drop, map_push, map-set, get_or-map}
use Rattle.std.proofs.lemmas.List.Elements.{All-head, All-tail}
use Rattle.place_plan.specs.declared.plans.places.Part.{Part}
use Rattle.place_plan.specs.declared.plans.places.PlaceParts.{PlaceParts}
use Rattle.place_plan.specs.Plans.Places.{no_place}
use Rattle.place_plan.specs.inner.PlaceLists.{part_of, row_of, rows_of, IsPart, IsWithin, AreWithin, IsPartOf}
use Rattle.place_plan.specs.inner.Unfolded.{bare_place, with_children}

-- the second list is the first with something behind it
record Grows {A : Type 0} (old now : List A) : Type 0 where
  more : List A
  is : now ≡ old ++ more

stays : {A : Type 0} (xs : List A) → Grows xs xs
stays xs = record { more = []; is = sym (append-nil xs) }

-- ---- a part of a list that grows

part_kept : {A : Type 0} (old now : List A) (part : Part) → Grows old now → IsPart part old → part_of now part ≡ part_of old part
part_kept old now part g h =
    ap (λ xs. part_of xs part) g.is
    ∙ ap (take (part.to - part.from)) (drop-append-le part.from old g.more (omega (arith, h.rises, h.within)))
    ∙ take-append-le (part.to - part.from) (drop part.from old) g.more
    (omega (arith, h.rises, h.within, length-drop part.from old))

-- what a list got last is the part from where it ended on
part_last : {A : Type 0} (old now more : List A) (part : Part) → now ≡ old ++ more → part.from ≡ length old
    → part.to ≡ length now → part_of now part ≡ more
part_last old now more part is begins ends =
    ap (λ xs. part_of xs part) is
    ∙ ap (take (part.to - part.from)) (drop_at old more part.from (sym begins))
    ∙ take_all (part.to - part.from) more (omega (arith, begins, ends, ap length is, length-append old more))

-- ---- rows of lists that grow

module _ (around around' players players' : List ℕ) (uses uses' : List (List ℕ)) (a : Grows around around')
    (p : Grows players players') (u : Grows uses uses') where
  row_kept : (parts : PlaceParts) → IsWithin around players uses parts
      → row_of around' players' uses' parts ≡ row_of around players uses parts
  row_kept parts h = λ i. record {
    around = part_kept around around' parts.around a h.around i;
    nest = parts.nest;
    action = parts.action;
    roles = part_kept players players' parts.roles p h.roles i;
    children = part_kept uses uses' parts.uses u h.uses i;
  }

  rows_kept : (parts : List PlaceParts) → AreWithin around players uses parts
      → rows_of around' players' uses' parts ≡ rows_of around players uses parts
  rows_kept [] h = refl
  rows_kept (x ∷ xs) h =
      ap₂ (λ y ys. y ∷ ys) (row_kept x (All-head (IsWithin around players uses) x xs h))
      (rows_kept xs (All-tail (IsWithin around players uses) x xs h))

-- ---- one place more

module _ (old_around around outer old_players players who : List ℕ) (uses : List (List ℕ)) (parts : List PlaceParts)
    (new : PlaceParts) (h : AreWithin old_around old_players uses parts) (ea : around ≡ old_around ++ outer)
    (ep : players ≡ old_players ++ who) (pa : IsPartOf old_around around new.around)
    (pr : IsPartOf old_players players new.roles) (none : new.uses ≡ record { from = 0; to = 0 }) where
  new_row : row_of around players uses new ≡ bare_place new.action who outer new.nest
  new_row = λ i. record {
    around = part_last old_around around outer new.around ea pa.begins pa.ends i;
    nest = new.nest;
    action = new.action;
    roles = part_last old_players players who new.roles ep pr.begins pr.ends i;
    children = part_of uses (none i);
  }

  pub pushed : rows_of around players uses (parts ++ new ∷ [])
      ≡ rows_of old_around old_players uses parts ++ bare_place new.action who outer new.nest ∷ []
  pushed =
      map_push (row_of around players uses) parts new
      ∙ ap₂ (λ rows row. rows ++ row ∷ [])
      (rows_kept old_around around old_players players uses uses (record { more = outer; is = ea })
      (record { more = who; is = ep }) (stays uses) parts h) new_row

-- ---- the nested uses of a place

module _ (around players : List ℕ) (old_uses uses more : List (List ℕ)) (parts : List PlaceParts) (place : ℕ) (x : PlaceParts)
    (part : Part) (h : AreWithin around players old_uses parts) (l : place < length parts)
    (e : x ≡ slice_index_or parts place x) (is : uses ≡ old_uses ++ more) (begins : part.from ≡ length old_uses)
    (ends : part.to ≡ length uses) where
  abbrev with_uses : PlaceParts
  with_uses = record { around = x.around; nest = x.nest; action = x.action; roles = x.roles; uses = part }

  used_row : row_of around players uses with_uses ≡ with_children more (row_of around players old_uses x)
  used_row = λ i. record {
    around = part_of around x.around;
    nest = x.nest;
    action = x.action;
    roles = part_of players x.roles;
    children = part_last old_uses uses more part is begins ends i;
  }

  old_row : slice_index_or (rows_of around players old_uses parts) place no_place ≡ row_of around players old_uses x
  old_row =
      get_or-map (row_of around players old_uses) parts place x no_place l ∙ ap (row_of around players old_uses) (sym e)

  pub used : rows_of around players uses (slice_set parts place with_uses)
      ≡ slice_set (rows_of around players old_uses parts) place
      (with_children more (slice_index_or (rows_of around players old_uses parts) place no_place))
  used =
      map-set (row_of around players uses) parts place with_uses
      ∙ ap₂ (λ rows row. slice_set rows place row)
      (rows_kept around around players players old_uses uses (stays around) (stays players)
      (record { more = more; is = is }) parts h) (used_row ∙ ap (with_children more) (sym old_row))

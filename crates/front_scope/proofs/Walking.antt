-- The walk over the parts of a form: parts stay sound, and what was judged stands in front of what is left.
use Rattle.std.proofs.Common.{◌≡◌, ℕ, ◌+◌, ◌<◌, ◌≤◌, List, [], ◌∷◌, ◌++◌, drop, length, get_or, suc, add-one, drop-cons, refl, ap, subst, sym, ◌∙◌, append_assoc}
use Rattle.std.proofs.lemmas.List.{drop_all}
use Rattle.std.specs.Borrow.{Bor}
use Rattle.base.specs.Names.{Extends, Extends-same, Extends-then}
use Rattle.base.specs.Data.{Item}
use Rattle.base.specs.AllOf.{AllOf}
use Rattle.base.specs.WellFormedData.{WellFormed, good_stays}
use Rattle.base.specs.declared.datum.Symbol.{Symbol}
use Rattle.base.specs.declared.reason.Stop.{Stop}
use Rattle.base.specs.declared.reason.Stop.TheVariants.{Refused, NoMemory}
use Rattle.lang_meaning.specs.Form.{Form}
use Rattle.front_profile.specs.declared.bound.Bound.{Bound}
use Rattle.front_profile.specs.declared.bound.Bound.TheVariants.{Variable}
use Rattle.front_profile.specs.declared.elaboration.ElaboratedPart.{ElaboratedPart}
use Rattle.front_profile.specs.declared.elaboration.ElaboratedPart.TheVariants.{Value, Binding, Parameter}
use Rattle.front_profile.specs.declared.spot.Spot.{Spot}
use Rattle.front_profile.specs.declared.tables.Tables.{Tables}
use Rattle.front_profile.specs.Elaborations.{nothing}
use Rattle.front_profile.specs.FunctionNodes.{function_node}
use Rattle.front_profile.specs.Nodes.{StaticContext, Part, form, below, inner, bind, parameter, wrong, function, Written, initform, accessor, method, stands}
use Rattle.front_profile.specs.Judged.{with_variable, made, ends}
use Rattle.front_profile.specs.Promises.{FormComes, FormStops}
use Rattle.front_profile.specs.RowWords.{deeper}
use Rattle.front_profile.specs.Sound.{weight, SoundFunction, SoundPart, AllSound}
use Rattle.front_profile.specs.Marks.{TablesGrow}
use Rattle.front_profile.specs.Walks.{PartTaken, PartStops, Through, PartsStop}
use Rattle.front_profile.specs.bridge.Growing.{tables_grow_reflexive, tables_grow_transitive}
use Rattle.front_profile.specs.bridge.Turns.{through_none, turn, turn_stops}
use Rattle.front_drafts.specs.declared.plan.Part.{Part as WrittenPart}
use Rattle.front_drafts.specs.Views.{at, view_part, view_parts, view_inner}
use Rattle.front_scope.specs.Walk.{NodeStops}

-- a function of a definition is sound under a later table of names

forms_stay : (old new : List (List ℕ)) (fs : List Item) → Extends old new → AllOf (WellFormed (length old)) fs → AllOf (WellFormed (length new)) fs
forms_stay old new [] e h = tt
forms_stay old new (f ∷ fs) e h = (good_stays old new f e h.0, forms_stay old new fs e h.1)

function_stays : (old new : List (List ℕ)) (w : ℕ) (f : Written) → Extends old new → SoundFunction (length old) w f → SoundFunction (length new) w f
function_stays old new w (initform d) e h = (good_stays old new d e h.0, h.1)
function_stays old new w (accessor m k d) e h = h
function_stays old new w (method m has_next ps fs) e h = (forms_stay old new fs e h.0, h.1)

-- a part is sound under a later table of names, and wherever the spots are the same
part_stays : (old new : List (List ℕ)) (w : ℕ) (o i o2 i2 : StaticContext) (x : Part) → Extends old new → o2.spot ≡ o.spot → i2.spot ≡ i.spot →
    SoundPart (length old) w o i x → SoundPart (length new) w o2 i2 x
part_stays old new w o i o2 i2 (form d) e p q h = (good_stays old new d e h.0, rw p h.1)
part_stays old new w o i o2 i2 (below d) e p q h = (good_stays old new d e h.0, rw p h.1)
part_stays old new w o i o2 i2 (inner d) e p q h = (good_stays old new d e h.0, rw q h.1)
part_stays old new w o i o2 i2 (bind x d) e p q h = (good_stays old new d e h.0, rw p h.1)
part_stays old new w o i o2 i2 (parameter x) e p q h = tt
part_stays old new w o i o2 i2 (wrong at r) e p q h = tt
part_stays old new w o i o2 i2 (function f) e p q h = function_stays old new w f e h

pub sound_stays : (old new : List (List ℕ)) (w : ℕ) (o i o2 i2 : StaticContext) (xs : List Part) → Extends old new → o2.spot ≡ o.spot → i2.spot ≡ i.spot →
    AllSound (length old) w o i xs → AllSound (length new) w o2 i2 xs
sound_stays old new w o i o2 i2 [] e p q h = tt
sound_stays old new w o i o2 i2 (x ∷ xs) e p q h =
    (part_stays old new w o i o2 i2 x e p q h.0, sound_stays old new w o i o2 i2 xs e p q h.1)

pub sound_first : (n w : ℕ) (o i : StaticContext) (xs ys : List Part) → AllSound n w o i (xs ++ ys) → AllSound n w o i xs
sound_first n w o i [] ys h = tt
sound_first n w o i (x ∷ xs) ys h = (h.0, sound_first n w o i xs ys h.1)

pub sound_rest : (n w : ℕ) (o i : StaticContext) (xs ys : List Part) → AllSound n w o i (xs ++ ys) → AllSound n w o i ys
sound_rest n w o i [] ys h = h
sound_rest n w o i (x ∷ xs) ys h = sound_rest n w o i xs ys h.1

-- a form stands for the part that it is

pub form_taken : (names : List (List ℕ)) (o i : StaticContext) (s t : Tables) (d : Item) (f : Form) (rs : List ElaboratedPart) →
    FormComes names o s d (stands (record { form = f; tables = t })) → PartTaken names o i s (form d) rs i t (rs ++ Value f ∷ [])
form_taken names o i s t d f rs h = record { form = f; part = record { under = h.under }; found = refl; around = refl }

pub below_taken : (names : List (List ℕ)) (o i : StaticContext) (s t : Tables) (d : Item) (f : Form) (rs : List ElaboratedPart) →
    FormComes names (deeper 1 o) s d (stands (record { form = f; tables = t })) → PartTaken names o i s (below d) rs i t (rs ++ Value f ∷ [])
below_taken names o i s t d f rs h = record { form = f; part = record { under = h.under }; found = refl; around = refl }

pub inner_taken : (names : List (List ℕ)) (o i : StaticContext) (s t : Tables) (d : Item) (f : Form) (rs : List ElaboratedPart) →
    FormComes names i s d (stands (record { form = f; tables = t })) → PartTaken names o i s (inner d) rs i t (rs ++ Value f ∷ [])
inner_taken names o i s t d f rs h = record { form = f; part = record { under = h.under }; found = refl; around = refl }

-- a variable more, bound inside
pub one_bound : (bs cs : List Bound) (b : Bound) (spot : Spot) → at (bs ++ (cs ++ b ∷ [])) spot ≡ at ((bs ++ cs) ++ b ∷ []) spot
one_bound bs cs b spot = ap (λ ds. at ds spot) (sym (append_assoc bs cs (b ∷ [])))

pub bind_taken : (names : List (List ℕ)) (o : StaticContext) (bs cs : List Bound) (spot : Spot) (s t : Tables) (x : Symbol) (d : Item) (f : Form) (rs : List ElaboratedPart) →
    FormComes names o (with_variable s) d (stands (record { form = f; tables = t })) →
    PartTaken names o (at (bs ++ cs) spot) s (bind x d) rs (at (bs ++ (cs ++ Variable x s.variables ∷ [])) spot) t (rs ++ Binding s.variables f ∷ [])
bind_taken names o bs cs spot s t x d f rs h =
    record { form = f; part = record { under = h.under }; found = refl; around = one_bound bs cs (Variable x s.variables) spot }

pub parameter_taken : (names : List (List ℕ)) (o : StaticContext) (bs cs : List Bound) (spot : Spot) (s : Tables) (x : Symbol) (rs : List ElaboratedPart) →
    PartTaken names o (at (bs ++ cs) spot) s (parameter x) rs (at (bs ++ (cs ++ Variable x s.variables ∷ [])) spot) (with_variable s) (rs ++ Parameter s.variables ∷ [])
parameter_taken names o bs cs spot s x rs = record {
  form = nothing;
  part = record { under = λ later e. made o (at (bs ++ cs) spot) (with_variable s) [] _ _ (ends o (at (bs ++ cs) spot) (with_variable s)) };
  found = refl;
  around = one_bound bs cs (Variable x s.variables) spot;
}

-- a stop of a form is the stop of the part that it is

pub form_stops : (names : List (List ℕ)) (o i : StaticContext) (s : Tables) (d : Item) (stop : Stop) → FormStops names o s d stop → PartStops names o i s (form d) stop
form_stops names o i s d (Refused r) h = record { under = h.under }
form_stops names o i s d NoMemory h = tt

pub below_stops : (names : List (List ℕ)) (o i : StaticContext) (s : Tables) (d : Item) (stop : Stop) → FormStops names (deeper 1 o) s d stop → PartStops names o i s (below d) stop
below_stops names o i s d (Refused r) h = record { under = h.under }
below_stops names o i s d NoMemory h = tt

pub inner_stops : (names : List (List ℕ)) (o i : StaticContext) (s : Tables) (d : Item) (stop : Stop) → FormStops names i s d stop → PartStops names o i s (inner d) stop
inner_stops names o i s d (Refused r) h = record { under = h.under }
inner_stops names o i s d NoMemory h = tt

pub function_stops : (names : List (List ℕ)) (o i : StaticContext) (s : Tables) (f : Written) (stop : Stop) → NodeStops names (function_node o s f) stop →
    PartStops names o i s (function f) stop
function_stops names o i s f (Refused r) h = record { under = h.under }
function_stops names o i s f NoMemory h = tt

pub bind_stops : (names : List (List ℕ)) (o i : StaticContext) (s : Tables) (x : Symbol) (d : Item) (stop : Stop) → FormStops names o (with_variable s) d stop → PartStops names o i s (bind x d) stop
bind_stops names o i s x d (Refused r) h = record { under = h.under }
bind_stops names o i s x d NoMemory h = tt

-- a list from a place on: the item there, and the rest

pub next_part : (xs : List WrittenPart) (k : ℕ) (x : WrittenPart) → k < length xs → x ≡ get_or xs k x → view_parts (drop k xs) ≡ view_part x ∷ view_parts (drop (k + 1) xs)
next_part xs k x h e = rw (add-one k) (ap view_parts (drop-cons xs k x h) ∙ ap (λ y. view_part y ∷ view_parts (drop (suc k) xs)) (sym e))

pub next_inner : (ds : List (Bor Item)) (k : ℕ) (d : Bor Item) → k < length ds → d ≡ get_or ds k d → view_inner (drop k ds) ≡ inner d.now ∷ view_inner (drop (k + 1) ds)
next_inner ds k d h e = rw (add-one k) (ap view_inner (drop-cons ds k d h) ∙ ap (λ y. inner y.now ∷ view_inner (drop (suc k) ds)) (sym e))

pub no_inner : (ds : List (Bor Item)) (k : ℕ) → length ds ≤ k → view_inner (drop k ds) ≡ []
no_inner ds k h = ap view_inner (drop_all k ds h)

pub no_parts : (xs : List WrittenPart) (k : ℕ) → length xs ≤ k → view_parts (drop k xs) ≡ []
no_parts xs k h = ap view_parts (drop_all k xs h)

pub inner_sound : (names : List (List ℕ)) (w : ℕ) (o i : StaticContext) (ys : List Part) (d : Item) (zs : List Part) → AllSound (length names) w o i ys → ys ≡ inner d ∷ zs →
    WellFormed (length names) d × (weight i.spot < w)
inner_sound names w o i ys d zs h e =
    let all : AllSound (length names) w o i (inner d ∷ zs) = subst (λ vs. AllSound (length names) w o i vs) e h in all.0

-- the parts so far, and those to come: where the walk stands
pub record SoFar (old names : List (List ℕ)) (w : ℕ) (o i i2 : StaticContext) (s t : Tables) (xs ys : List Part) (rs : List ElaboratedPart) : Type 0 where
  pub later : Extends old names
  pub grows : TablesGrow s t
  pub sound : AllSound (length names) w o i2 ys
  pub through : (zs : List Part) → Through names o i s (xs ++ zs) rs i2 t (ys ++ zs)

pub so_far_none : (names : List (List ℕ)) (w : ℕ) (o i : StaticContext) (s : Tables) (xs : List Part) → AllSound (length names) w o i xs → SoFar names names w o i i s s xs xs []
so_far_none names w o i s xs h = record {
  later = Extends-same names;
  grows = tables_grow_reflexive s;
  sound = h;
  through = λ zs. through_none names o i s (xs ++ zs);
}

pub so_far_turn : (old names more : List (List ℕ)) (w : ℕ) (o i i2 i3 : StaticContext) (s t u : Tables) (xs ys : List Part) (y : Part) (zs : List Part) (rs rs2 : List ElaboratedPart) →
    SoFar old names w o i i2 s t xs ys rs → ys ≡ y ∷ zs → Extends names more → TablesGrow t u → i3.spot ≡ i2.spot →
    PartTaken more o i2 t y rs i3 u rs2 → SoFar old more w o i i3 s u xs zs rs2
so_far_turn old names more w o i i2 i3 s t u xs ys y zs rs rs2 h e x g same p = record {
  later = Extends-then old names more h.later x;
  grows = tables_grow_transitive s t u h.grows g;
  sound =
      let all : AllSound (length names) w o i2 (y ∷ zs) = subst (λ vs. AllSound (length names) w o i2 vs) e h.sound in
      sound_stays names more w o i2 o i3 zs x refl same all.1;
  through = λ vs.
      let before : Through names o i s (xs ++ vs) rs i2 t (y ∷ (zs ++ vs)) = subst (λ us. Through names o i s (xs ++ vs) rs i2 t (us ++ vs)) e (h.through vs) in
      turn names more o i s (xs ++ vs) rs i2 t y (zs ++ vs) i3 u rs2 x before p;
}

pub so_far_stops : (old names more : List (List ℕ)) (w : ℕ) (o i i2 : StaticContext) (s t : Tables) (xs ys : List Part) (y : Part) (zs : List Part) (rs : List ElaboratedPart) (stop : Stop) →
    SoFar old names w o i i2 s t xs ys rs → ys ≡ y ∷ zs → Extends names more → PartStops more o i2 t y stop → (vs : List Part) → PartsStop more o i s (xs ++ vs) stop
so_far_stops old names more w o i i2 s t xs ys y zs rs stop h e x p vs =
    let before : Through names o i s (xs ++ vs) rs i2 t (y ∷ (zs ++ vs)) = subst (λ us. Through names o i s (xs ++ vs) rs i2 t (us ++ vs)) e (h.through vs) in
    turn_stops names more o i s (xs ++ vs) rs i2 t y (zs ++ vs) stop x before p

-- the same of the forms inside, behind parts that were found before
pub record InsideSoFar (old names : List (List ℕ)) (w : ℕ) (o2 i2 : StaticContext) (s t : Tables) (xs ys : List Part) (rs rs2 : List ElaboratedPart) : Type 0 where
  pub later : Extends old names
  pub grows : TablesGrow s t
  pub sound : AllSound (length names) w o2 i2 ys
  pub through : (o : StaticContext) (u : Tables) (zs : List Part) (i : StaticContext) → Through old o i u zs rs i2 s xs → Through names o i u zs rs2 i2 t ys

pub inside_none : (names : List (List ℕ)) (w : ℕ) (o2 i2 : StaticContext) (s : Tables) (xs : List Part) (rs : List ElaboratedPart) → AllSound (length names) w o2 i2 xs →
    InsideSoFar names names w o2 i2 s s xs xs rs rs
inside_none names w o2 i2 s xs rs h = record {
  later = Extends-same names;
  grows = tables_grow_reflexive s;
  sound = h;
  through = λ o u zs i g. g;
}

pub inside_turn : (old names more : List (List ℕ)) (w : ℕ) (o2 i2 : StaticContext) (s t u : Tables) (xs ys : List Part) (d : Item) (zs : List Part) (rs rs2 : List ElaboratedPart) (f : Form) →
    InsideSoFar old names w o2 i2 s t xs ys rs rs2 → ys ≡ inner d ∷ zs → Extends names more → TablesGrow t u →
    FormComes more i2 t d (stands (record { form = f; tables = u })) → InsideSoFar old more w o2 i2 s u xs zs rs (rs2 ++ Value f ∷ [])
inside_turn old names more w o2 i2 s t u xs ys d zs rs rs2 f h e x g comes = record {
  later = Extends-then old names more h.later x;
  grows = tables_grow_transitive s t u h.grows g;
  sound =
      let all : AllSound (length names) w o2 i2 (inner d ∷ zs) = subst (λ vs. AllSound (length names) w o2 i2 vs) e h.sound in
      sound_stays names more w o2 i2 o2 i2 zs x refl refl all.1;
  through = λ o v vs i k.
      let before : Through names o i v vs rs2 i2 t (inner d ∷ zs) = subst (λ us. Through names o i v vs rs2 i2 t us) e (h.through o v vs i k) in
      turn names more o i v vs rs2 i2 t (inner d) zs i2 u (rs2 ++ Value f ∷ []) x before (inner_taken more o i2 t u d f rs2 comes);
}

pub inside_stops : (old names more : List (List ℕ)) (w : ℕ) (o2 i2 : StaticContext) (s t : Tables) (xs ys : List Part) (d : Item) (zs : List Part) (rs rs2 : List ElaboratedPart) (stop : Stop) →
    InsideSoFar old names w o2 i2 s t xs ys rs rs2 → ys ≡ inner d ∷ zs → Extends names more → FormStops more i2 t d stop →
    (o : StaticContext) (v : Tables) (vs : List Part) (i : StaticContext) → Through old o i v vs rs i2 s xs → PartsStop more o i v vs stop
inside_stops old names more w o2 i2 s t xs ys d zs rs rs2 stop h e x p o v vs i k =
    let before : Through names o i v vs rs2 i2 t (inner d ∷ zs) = subst (λ us. Through names o i v vs rs2 i2 t us) e (h.through o v vs i k) in
    turn_stops names more o i v vs rs2 i2 t (inner d) zs stop x before (inner_stops more o i2 t d stop p)

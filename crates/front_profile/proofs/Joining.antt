-- Definitions whose parts are functions alone: what their rows need, where generic functions, methods and classes are added at the end.
use Rattle.std.proofs.Common.{◌+◌, ◌==◌, ◌≡◌, ◌≤◌, ℕ, Bool, true, false, ◌||◌, List, [], ◌∷◌, length, slice_get, Some, None, if◌then◌else◌, nat_le, refl, sym, ap, subst, ◌∙◌, arith}
use Rattle.std.specs.List.{list_any, sum_by}
use Rattle.std.proofs.lemmas.Bool.{leb-true}
use Rattle.std.proofs.lemmas.Option.{slice_get-get_or}
use Rattle.std.proofs.Common.{get_or}
use Rattle.base.specs.declared.place.Place.{Place}
use Rattle.base.specs.Data.{Item}
use Rattle.base.specs.DataFormed.{is_formed}
use Rattle.base.specs.AllOf.{AllOf}
use Rattle.lang_meaning.specs.declared.program.GenericRow.{GenericRow}
use Rattle.lang_meaning.specs.Form.{Form}
use Rattle.lang_meaning.specs.ProgramCounts.{procedure_nodes}
use Rattle.lang_meaning.specs.Standing.{is_alone}
use Rattle.front_profile.specs.declared.tables.Tables.{Tables}
use Rattle.front_profile.specs.declared.elaboration.ElaboratedPart.{ElaboratedPart}
use Rattle.front_profile.specs.declared.elaboration.Elaboration.{Elaboration}
use Rattle.front_profile.specs.Nodes.{StaticContext, Part, form, below, inner, bind, parameter, wrong, function, initform, accessor, method, Node, whole}
use Rattle.front_profile.specs.Elaborations.{leaf_form, made_form, finish}
use Rattle.front_profile.specs.RowWords.{within_depth}
use Rattle.front_profile.specs.DefiningRows.{defining_offence, unless_offending, with_name, named_form}
use Rattle.front_profile.specs.Sound.{weight, SoundPart, AllSound, SoundNode}
use Rattle.front_profile.specs.Definitions.{Definitions, defined, Later, SoundDefinitions, EachStands, procedure_count}
use Rattle.front_profile.specs.Places.{scope_of}
use Rattle.front_profile.specs.Numbers.{Numbered}
use Rattle.front_profile.specs.Right.{RightIn, NodesCounted}
use Rattle.front_profile.proofs.Definitions.{later_then, Entered, counted_then, counted_more}
use Rattle.front_profile.proofs.Good.{good_later}
use Rattle.front_profile.proofs.Procedures.{MadeFrom, Same, IsLow, AllLow}
use Rattle.front_profile.proofs.Wanted.{spots, AllCame, AllApt, AptPart, counted_nodes, AptAt, Stage}
use Rattle.front_profile.proofs.DefiningRows.{name_entered, name_right, name_counted, name_numbered}
use Rattle.front_profile.proofs.Adding.{StandsBelow}
use Rattle.front_profile.proofs.MethodViews.{AllRight, all_right}
use Rattle.front_profile.proofs.Methods.{Joined}

-- parts that are functions, or are wrong

abbrev pub IsFunctionPart : Part → Type 0
IsFunctionPart (wrong p r) = Unit {0}
IsFunctionPart (function (initform d)) = Unit {0}
IsFunctionPart (function (accessor n k d)) = is_formed d ≡ true
IsFunctionPart (function (method n has_next ps fs)) = Unit {0}
IsFunctionPart other = ⊥

abbrev pub AllFunctions : List Part → Type 0
AllFunctions xs = AllOf IsFunctionPart xs

apt_function : (n w : ℕ) (o i a : StaticContext) (x : Part) → a.spot.top ≡ true → SoundPart n w o i x → IsFunctionPart x → AptPart n a x
apt_function n w o i a (wrong p r) e s f = tt
apt_function n w o i a (function (initform d)) e s f = (s.0, e)
apt_function n w o i a (function (accessor m k d)) e s f = (f, e)
apt_function n w o i a (function (method m has_next ps fs)) e s f = (s.0, e)
apt_function n w o i a other e s f = absurd f

apt_functions : (n w : ℕ) (o i a : StaticContext) (xs : List Part) → a.spot.top ≡ true → AllSound n w o i xs → AllFunctions xs → AllApt n a xs
apt_functions n w o i a [] e s f = tt
apt_functions n w o i a (x ∷ xs) e s f = (apt_function n w o i a x e s.0 f.0, apt_functions n w o i a xs e s.1 f.1)

low_function : (o i : Bool) (x : Part) → IsFunctionPart x → IsLow o i x
low_function o i (wrong p r) f = tt
low_function o i (function w) f = tt
low_function o i other f = absurd f

low_functions : (o i : Bool) (xs : List Part) → AllFunctions xs → AllLow o i xs
low_functions o i [] f = tt
low_functions o i (x ∷ xs) f = (low_function o i x f.0, low_functions o i xs f.1)

-- their nodes are counted by their procedures
none_counted : (xs : List Part) (rs : List ElaboratedPart) → AllFunctions xs → AllRight xs → counted_nodes xs rs ≡ 0
none_counted [] rs f r = refl
none_counted (x ∷ xs) [] f r = refl
none_counted (form d ∷ xs) (y ∷ rs) f r = absurd f.0
none_counted (below d ∷ xs) (y ∷ rs) f r = absurd f.0
none_counted (inner d ∷ xs) (y ∷ rs) f r = absurd f.0
none_counted (bind x d ∷ xs) (y ∷ rs) f r = absurd f.0
none_counted (parameter x ∷ xs) (y ∷ rs) f r = absurd f.0
none_counted (wrong p q ∷ xs) (y ∷ rs) f r = absurd r.0
none_counted (function w ∷ xs) (y ∷ rs) f r = no_more (counted_nodes xs rs) (none_counted xs rs f.1 r.1)
  where
    no_more : (n : ℕ) → n ≡ 0 → 0 + n ≡ 0
    no_more n e = omega (arith, e)

-- the procedures in front of a definition stand behind its parts
stands_before : (g h : Definitions) → Later g h → h.generics ≡ g.generics → EachStands g → StandsBelow (length g.procedures) h
stands_before g h l e s = record {
  stands = λ i p b k.
      let there : slice_get g.procedures i ≡ Some (get_or g.procedures i p) = slice_get-get_or g.procedures i p b in
      let same : Some p ≡ Some (get_or g.procedures i p) = sym k ∙ l.kept i (get_or g.procedures i p) there in
      let mine : slice_get g.procedures i ≡ Some p = there ∙ sym same in
      ap (λ gs. list_any (λ (x : GenericRow). list_any (λ m. i == m.procedure) x.methods) gs || is_alone false (Some p)) e ∙ s.stands i p mine;
}

joined_counted : (b : Bool) (x g h : Definitions) (n : ℕ) → Joined g h → NodesCounted b x g n → NodesCounted b x h n
joined_counted b x g h n j c =
    let sites : length h.sites ≡ length g.sites = ap length j.sites in
    let count : procedure_count h ≡ procedure_count g = ap (λ ps. sum_by procedure_nodes ps) j.procedures in
    record { sites = omega (arith, c.sites, sites, count) }

-- what is added at the end, where the procedures in front stand
pub record Joins (p : ℕ) (g h : Definitions) : Type 0 where
  pub joined : Joined g h
  pub stand : StandsBelow p g → EachStands h

-- what is so where all parts are functions, none of them is wrong, and nothing else is defined
pub record FunctionsCame (s : Tables) (xs : List Part) (u : Tables) : Type 0 where
  pub sound : SoundDefinitions (defined u)
  pub same : Same (defined s) (defined u)
  pub right : AllRight xs
  pub made : MadeFrom (length s.procedures) xs u.procedures

-- a node, where it is sound
abbrev pub WhereSound : ℕ → StaticContext → Tables → Node → Type 0
WhereSound n a s x = SoundNode n (weight a.spot) x → AptAt n a s x

pub where_test : (n : ℕ) (a : StaticContext) (s : Tables) (b : Bool) (x y : Node) → (b ≡ true → WhereSound n a s x) → (b ≡ false → WhereSound n a s y)
    → WhereSound n a s (if b then x else y)
where_test n a s true x y g h = g refl
where_test n a s false x y g h = h refl

pub where_within : (n : ℕ) (a : StaticContext) (s : Tables) (p : Place) (x : Node) → (a.spot.depth + 1 ≤ 1000 → WhereSound n a s x) → WhereSound n a s (within_depth 1 a p x)
where_within n a s p x g =
    where_test n a s (nat_le (a.spot.depth + 1) 1000) x _ (λ e. g (leb-true (a.spot.depth + 1) 1000 e)) (λ e k. tt)

pub where_defining : (n : ℕ) (a : StaticContext) (s : Tables) (p : Place) (top taken reserved : Bool) (x : Node)
    → (top ≡ true → taken ≡ false → reserved ≡ false → WhereSound n a s x) → WhereSound n a s (unless_offending p (defining_offence top taken reserved) x)
where_defining n a s p top true reserved x h = λ k. tt
where_defining n a s p false false reserved x h = λ k. tt
where_defining n a s p true false true x h = λ k. tt
where_defining n a s p true false false x h = h refl refl refl

-- a definition at top level, whose name is a literal in a file
pub apt_joining : (n : ℕ) (a : StaticContext) (s : Tables) (d : Item) (xs : List Part) (k : Elaboration) → Stage a s → is_formed d ≡ true → a.spot.top ≡ true → a.spot.depth + 1 ≤ 1000
    → AllFunctions xs → ((rs : List ElaboratedPart) → made_form (record { site = None; making = k }) rs ≡ leaf_form (named_form a.spot.sited s))
    → ((u : Tables) (rs : List ElaboratedPart) → FunctionsCame s xs u → Joins (length s.procedures) (defined u) (defined (finish k rs u)))
    → WhereSound n a s (whole a a (with_name a.spot.sited d s) xs (record { site = None; making = k }))
apt_joining n a s d xs k b formed top l f is join sound =
    let t : Tables = with_name a.spot.sited d s in
    let e : Entered (defined s) (defined t) = name_entered a.spot.sited d s b.whole formed in
    let parts : AllApt n a xs = apt_functions n (weight a.spot) a a a xs top sound f in
    let came : (u : Tables) (rs : List ElaboratedPart) → AllCame a a (defined t) xs rs (defined u) → FunctionsCame s xs u =
    λ u rs c.
    let low : AllLow a.spot.top a.spot.top xs = low_functions a.spot.top a.spot.top xs f in
    let same : Same (defined t) (defined u) = c.same low in
    record {
      sound = c.whole;
      same = record { classes = same.classes ∙ e.same.classes; generics = same.generics ∙ e.same.generics; functions = same.functions ∙ e.same.functions };
      right = all_right (spots (defined u) a a rs) xs rs c.match;
      made = subst (λ (m : ℕ). MadeFrom m xs u.procedures) (ap length e.same.procedures) (c.made low);
    } in
    let joins : (u : Tables) (rs : List ElaboratedPart) → AllCame a a (defined t) xs rs (defined u) → Joins (length s.procedures) (defined u) (defined (finish k rs u)) =
    λ u rs c. join u rs (came u rs c) in
    record {
      entered = e;
      outside = good_later (defined s) (defined t) a e.later b.good;
      inside = good_later (defined s) (defined t) a e.later b.good;
      level = b.good.top;
      sited = (refl, refl);
      parts = parts;
      right = λ u rs c.
          subst (λ (x : Form). RightIn (defined (finish k rs u)) (scope_of a) a.spot.depth x) (sym (is rs))
          (name_right a.spot.sited d s (defined (finish k rs u)) (scope_of a) a.spot.depth l (later_then (defined t) (defined u) _ c.later (joins u rs c).joined.later));
      leaves = λ u rs c.
          let j : Joins (length s.procedures) (defined u) (defined (finish k rs u)) = joins u rs c in
          record {
            later = later_then (defined t) (defined u) (defined (finish k rs u)) c.later j.joined.later;
            sound = j.joined.sound;
            main = j.joined.main ∙ c.main;
            inside = λ k. absurd (cc (top, k));
            stand = λ k.
                j.stand (subst (λ (m : ℕ). StandsBelow m (defined u)) (ap length e.same.procedures)
                (stands_before (defined t) (defined u) c.later (c.same (low_functions a.spot.top a.spot.top xs f)).generics k));
          };
      counted = λ u rs c m.
          joined_counted a.spot.sited (defined s) (defined u) (defined (finish k rs u)) _ (joins u rs c).joined
          (counted_more a.spot.sited (defined s) (defined u) (0 + counted_nodes xs rs) _
          (omega (arith, none_counted xs rs f (all_right (spots (defined u) a a rs) xs rs c.match)))
          (counted_then a.spot.sited (defined s) (defined t) (defined u) 0 (counted_nodes xs rs) (name_counted a.spot.sited a.spot.sited d s) m));
      numbered = λ u rs c m.
          subst (λ (x : Form). Numbered (defined s) (defined (finish k rs u)) x) (sym (is rs)) (name_numbered a.spot.sited s (defined s) (defined (finish k rs u)));
    }

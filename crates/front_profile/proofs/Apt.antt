-- Nodes that say so, put together: tests, nodes without parts, forms at their sites, lists of parts.
-- right forms is right.
use Rattle.std.proofs.Common.{◌≡◌, ◌+◌, ◌≤◌, ℕ, nat_le, Bool, true, false, List, [], ◌∷◌, ◌++◌, length, if◌then◌else◌, refl, sym, ap, subst, ◌∙◌, arith}
use Rattle.std.proofs.lemmas.Bool.{leb-true}
use Rattle.std.proofs.lemmas.List.{length-append}
use Rattle.base.specs.declared.place.Place.{Place}
use Rattle.base.specs.declared.datum.Symbol.{Symbol}
use Rattle.base.specs.declared.reason.Reason.TheVariants.{DepthLimit}
use Rattle.base.specs.Data.{Item}
use Rattle.base.specs.AllOf.{AllOf, all_map}
use Rattle.base.specs.WellFormedData.{WellFormed}
use Rattle.lang_meaning.specs.declared.program.LiteralRow.{LiteralRow}
use Rattle.lang_meaning.specs.declared.scope.LexicalScope.{LexicalScope}
use Rattle.lang_meaning.specs.Form.{Form}
use Rattle.lang_meaning.specs.Counts.{all_nodes}
use Rattle.lang_meaning.specs.Facts.{literal_fits}
use Rattle.front_profile.specs.declared.tables.Tables.{Tables}
use Rattle.front_profile.specs.declared.elaboration.ElaboratedPart.{ElaboratedPart}
use Rattle.front_profile.specs.declared.elaboration.Leaf.{Leaf}
use Rattle.front_profile.specs.declared.elaboration.Leaf.TheVariants.{Literal}
use Rattle.front_profile.specs.declared.elaboration.Elaboration.{Elaboration}
use Rattle.front_profile.specs.declared.elaboration.Elaboration.TheVariants.{Ready}
use Rattle.front_profile.specs.Nodes.{StaticContext, Part, Node, offends}
use Rattle.front_profile.specs.Elaborations.{leaf_form, elaborate, at_site, finish}
use Rattle.front_profile.specs.Shapes.{Pair}
use Rattle.front_profile.specs.RowWords.{deeper, with_site_if, site_if, within_depth, made_of, made_at_once, unsited, with_literal, literal_node, each_form, each_below, each_inner, each_bound, each_parameter}
use Rattle.front_profile.specs.bridge.WellFormedParts.{WellFormedPairs}
use Rattle.front_profile.specs.Definitions.{Definitions, defined, rows_of, Later, SoundDefinitions}
use Rattle.front_profile.specs.Numbers.{Numbered}
use Rattle.front_profile.specs.Places.{scope_of, EmptyContext, WellFormedContext}
use Rattle.front_profile.specs.Right.{RightIn, RightAt, Behind, NodesCounted}
use Rattle.front_profile.proofs.Forms.{right_sited}
use Rattle.front_profile.proofs.Definitions.{undefined_then, each_stands_same, Entered, later_same, later_then, entered_same, entered_then, entered_site, entered_literal, counted_same, counted_then, counted_more}
use Rattle.front_profile.proofs.Procedures.{MadeFrom, Same, AllOrdinary}
use Rattle.front_profile.proofs.Nodes.{found_nodes, site_nodes}
use Rattle.front_profile.proofs.Numbers.{AllNumbered, OwnNumbers, make_numbered, site_numbered, all_numbered_wider}
use Rattle.front_profile.proofs.FoundNodes.{none_found}
use Rattle.front_profile.proofs.Good.{good_later, good_deeper}
use Rattle.front_profile.proofs.Matches.{new_variables}
use Rattle.front_profile.proofs.MadeForms.{made_literal}
use Rattle.front_profile.proofs.Wanted.{spots, AllCame, AllApt, all_ordinary, counted_nodes, counted_at_most, came_leaves, AptAt, Stage}

-- tests

pub apt_if : (n : ℕ) (a : StaticContext) (s : Tables) (b : Bool) (x y : Node) → AptAt n a s x → AptAt n a s y → AptAt n a s (if b then x else y)
apt_if n a s true x y g h = g
apt_if n a s false x y g h = h

where_true : (n : ℕ) (a : StaticContext) (s : Tables) (b : Bool) (p : Place) (x : Node) → (b ≡ true → AptAt n a s x) → AptAt n a s (if b then x else offends p DepthLimit)
where_true n a s true p x h = h refl
where_true n a s false p x h = tt

pub apt_within : (n : ℕ) (a : StaticContext) (s : Tables) (k : ℕ) (p : Place) (x : Node) → (a.spot.depth + k ≤ 1000 → AptAt n a s x) → AptAt n a s (within_depth k a p x)
apt_within n a s k p x h = where_true n a s (nat_le (a.spot.depth + k) 1000) p x (λ e. h (leb-true (a.spot.depth + k) 1000 e))

-- nodes without parts, at no site

pub apt_unsited : (n : ℕ) (a : StaticContext) (s : Tables) (p : Place) (t : Tables) (x : Leaf) → Stage a s → Entered (defined s) (defined t) → NodesCounted a.spot.sited (defined s) (defined t) 0
    → ((h k : Definitions) → Numbered h k (leaf_form x)) → ((h : Definitions) → Later (defined t) h → a.spot.depth + 1 ≤ 1000 → RightAt h a (leaf_form x)) → AptAt n a s (unsited a p t x)
apt_unsited n a s p t x b e start num r = apt_within n a s 1 p _ (λ l. record {
  entered = e;
  outside = good_later (defined s) (defined t) a e.later b.good;
  inside = good_later (defined s) (defined t) a e.later b.good;
  level = b.good.top;
  sited = (refl, refl);
  parts = tt;
  right = λ u rs c. r (defined u) c.later l;
  leaves = λ u rs c. came_leaves a.spot.top a a (defined t) [] rs (defined u) (λ k. (k, k)) tt c;
  counted = λ u rs c k.
      counted_more a.spot.sited (defined s) (defined u) (0 + 0) (all_nodes (leaf_form x)) (omega arith)
      (counted_then a.spot.sited (defined s) (defined t) (defined u) 0 0 start k);
  numbered = λ u rs c k. num (defined s) (defined u);
})

pub apt_literal : (n : ℕ) (a : StaticContext) (s : Tables) (p : Place) (x : LiteralRow) → Stage a s → literal_fits (rows_of (defined s)) x ≡ true
    → AptAt n a s (literal_node a p s x)
apt_literal n a s p x b h =
    apt_unsited n a s p (with_literal x s) (Literal (length s.literals)) b (entered_literal (defined s) x b.whole h) (record { sites = (counted_same a.spot.sited (defined s)).sites }) (λ h k. record { numbers = refl })
    (λ k l d. made_literal k (scope_of a) a.spot.depth (length s.literals) d (omega (arith, l.literals, length-append s.literals (x ∷ []))))

-- what a form at its site needs

pub record MadeParts (n : ℕ) (a : StaticContext) (s : Tables) (i : StaticContext) (t : Tables) (xs : List Part) (k : Elaboration) : Type 0 where
  pub entered : Entered (defined s) (defined t)
  pub inside : WellFormedContext (defined t) i
  pub low : a.spot.top ≡ false → i.spot.top ≡ false
  pub sited : i.spot.sited ≡ a.spot.sited
  pub ordinary : AllOrdinary xs
  pub start : NodesCounted a.spot.sited (defined s) (defined t) 0
  pub parts : AllApt n i xs
  pub right : (u : Tables) (rs : List ElaboratedPart) → AllCame (deeper 1 a) i (defined t) xs rs (defined u) → RightAt (defined u) a (elaborate k rs)
  pub ends : (u : Tables) (rs : List ElaboratedPart) → defined (finish k rs u) ≡ defined u
  pub nodes : (u : Tables) (rs : List ElaboratedPart) → AllCame (deeper 1 a) i (defined t) xs rs (defined u) → found_nodes rs + 1 ≤ all_nodes (elaborate k rs)
  pub own : (u : Tables) (rs : List ElaboratedPart) → AllCame (deeper 1 a) i (defined t) xs rs (defined u) → AllNumbered (defined s) (defined u) rs
      → OwnNumbers (defined s) (defined u) k rs

-- with its site
site_entered : (b : Bool) (p : Place) (t : Tables) → SoundDefinitions (defined t) → Entered (defined t) (defined (with_site_if b p t))
site_entered true p t w = entered_site (defined t) p w
site_entered false p t w = entered_same (defined t) w

came_earlier : (o i : StaticContext) (g h : Definitions) (xs : List Part) (rs : List ElaboratedPart) (k : Definitions) → Entered g h → AllCame o i h xs rs k → AllCame o i g xs rs k
came_earlier o i g h xs rs k e c = record {
  whole = c.whole;
  later = later_then g h k e.later c.later;
  main = c.main ∙ e.main;
  same = λ l. let s : Same h k = c.same l in record { classes = s.classes ∙ e.same.classes; generics = s.generics ∙ e.same.generics; functions = s.functions ∙ e.same.functions };
  made = λ l. subst (λ (n : ℕ). MadeFrom n xs k.procedures) (ap length e.same.procedures) (c.made l);
  undefined = λ p l. undefined_then g h k e.same (c.undefined p l);
  stand = λ p s. c.stand p (each_stands_same g h e.same s);
  newer = all_map (λ v. h.variables ≤ v) (λ v. g.variables ≤ v) (λ v l. omega (arith, l, e.later.variables)) (new_variables rs) c.newer;
  match = c.match;
}

at_its_site : (b : Bool) (p : Place) (t : Tables) (h : Definitions) (s : LexicalScope) (n : ℕ) (f : Form) → Later (defined (with_site_if b p t)) h → RightIn h s n f
    → RightIn h s n (at_site (site_if b (length t.sites)) f)
at_its_site true p t h s n f l r = right_sited h s n (length t.sites + 1) f (omega arith) (omega (arith, l.sites, length-append t.sites (p ∷ []))) r
at_its_site false p t h s n f l r = r

site_counted : (b : Bool) (p : Place) (t : Tables) → NodesCounted b (defined t) (defined (with_site_if b p t)) 1
site_counted true p t = record { sites = omega (arith, length-append t.sites (p ∷ [])) }
site_counted false p t = record { sites = omega arith }

with_site_nodes : (b : Bool) (n : ℕ) (f : Form) → all_nodes f ≤ all_nodes (at_site (site_if b n) f)
with_site_nodes true n f = omega (arith, site_nodes (n + 1) f)
with_site_nodes false n f = omega arith

-- from the start to the end: what was counted up to the site, and of the parts
made_counted : (b : Bool) (g h k u : Definitions) (m n : ℕ) → m + 1 ≤ n → NodesCounted b g h 0 → NodesCounted b h k 1 → NodesCounted b k u m → NodesCounted b g u n
made_counted b g h k u m n l c d e =
    counted_more b g u (0 + 1 + m) n (omega (arith, l)) (counted_then b g k u (0 + 1) m (counted_then b g h k 0 1 c d) e)

-- where the parts stand at top level, the form does
at_level : (g : Definitions) (a i : StaticContext) → (a.spot.top ≡ false → i.spot.top ≡ false) → WellFormedContext g a → i.spot.top ≡ true → EmptyContext (deeper 1 a)
at_level g a i low good e = by_top a.spot.top refl
  where
    by_top : (b : Bool) → a.spot.top ≡ b → EmptyContext (deeper 1 a)
    by_top true k = let n : EmptyContext a = good.top k in record { bound = n.bound; method = n.method }
    by_top false k = let l : i.spot.top ≡ false = low k in absurd (cc (l, e))

pub apt_made : (n : ℕ) (a : StaticContext) (s : Tables) (i : StaticContext) (p : Place) (t : Tables) (xs : List Part) (k : Elaboration) → Stage a s → MadeParts n a s i t xs k
    → AptAt n a s (made_of a i p t xs k)
apt_made n a s i p t xs k2 b m =
    let t2 : Tables = with_site_if a.spot.sited p t in
    let e : Entered (defined t) (defined t2) = site_entered a.spot.sited p t m.entered.whole in
    let all : Entered (defined s) (defined t2) = entered_then (defined s) (defined t) (defined t2) m.entered e in
    record {
      entered = all;
      outside = good_later (defined s) (defined t2) (deeper 1 a) all.later (good_deeper (defined s) 1 a b.good);
      inside = good_later (defined t) (defined t2) i e.later m.inside;
      level = λ e. at_level (defined s) a i m.low b.good e;
      sited = (refl, m.sited);
      parts = m.parts;
      right = λ u rs c.
          subst (λ (h : Definitions). RightAt h a (at_site (site_if a.spot.sited (length t.sites)) (elaborate k2 rs))) (sym (m.ends u rs))
          (at_its_site a.spot.sited p t (defined u) (scope_of a) a.spot.depth (elaborate k2 rs) c.later
          (m.right u rs (came_earlier (deeper 1 a) i (defined t) (defined t2) xs rs (defined u) e c)));
      leaves = λ u rs c.
          subst (Behind a.spot.top (defined t2)) (sym (m.ends u rs))
          (came_leaves a.spot.top (deeper 1 a) i (defined t2) xs rs (defined u) (λ l. (refl, m.low l)) m.ordinary c);
      counted = λ u rs c k.
          let here : found_nodes rs + 1 ≤ all_nodes (elaborate k2 rs) =
          m.nodes u rs (came_earlier (deeper 1 a) i (defined t) (defined t2) xs rs (defined u) e c) in
          subst (λ (h : Definitions). NodesCounted a.spot.sited (defined s) h (all_nodes (at_site (site_if a.spot.sited (length t.sites)) (elaborate k2 rs)))) (sym (m.ends u rs))
          (made_counted a.spot.sited (defined s) (defined t) (defined t2) (defined u) (counted_nodes xs rs) _
          (omega (arith, here, counted_at_most xs rs, with_site_nodes a.spot.sited (length t.sites) (elaborate k2 rs))) m.start (site_counted a.spot.sited p t) k);
      numbered = λ u rs c k.
          let found : AllNumbered (defined s) (defined u) rs =
          all_numbered_wider (defined t2) (defined s) (defined u) (defined u) rs all.later (later_same (defined u)) k in
          let here : Numbered (defined s) (defined u) (elaborate k2 rs) =
          make_numbered (defined s) (defined u) k2 rs found (m.own u rs (came_earlier (deeper 1 a) i (defined t) (defined t2) xs rs (defined u) e c) found) in
          subst (λ (h : Definitions). Numbered (defined s) h (at_site (site_if a.spot.sited (length t.sites)) (elaborate k2 rs))) (sym (m.ends u rs))
          (site_numbered (defined s) (defined u) (site_if a.spot.sited (length t.sites)) (elaborate k2 rs) here);
    }

-- all parts stand where the form stands, one deeper, and nothing is added first
pub plain_parts : (n : ℕ) (a : StaticContext) (s : Tables) (xs : List Part) (k : Elaboration) → Stage a s → AllApt n (deeper 1 a) xs
    → ((u : Tables) (rs : List ElaboratedPart) → AllCame (deeper 1 a) (deeper 1 a) (defined s) xs rs (defined u) → RightAt (defined u) a (elaborate k rs))
    → ((u : Tables) (rs : List ElaboratedPart) → defined (finish k rs u) ≡ defined u)
    → ((u : Tables) (rs : List ElaboratedPart) → AllCame (deeper 1 a) (deeper 1 a) (defined s) xs rs (defined u) → found_nodes rs + 1 ≤ all_nodes (elaborate k rs))
    → ((u : Tables) (rs : List ElaboratedPart) → OwnNumbers (defined s) (defined u) k rs)
    → MadeParts n a s (deeper 1 a) s xs k
plain_parts n a s xs k b x r e m own = record {
  entered = entered_same (defined s) b.whole;
  inside = good_deeper (defined s) 1 a b.good;
  low = λ l. refl;
  sited = refl;
  ordinary = all_ordinary n (deeper 1 a) xs refl x;
  start = counted_same a.spot.sited (defined s);
  parts = x;
  right = r;
  ends = e;
  nodes = m;
  own = λ u rs c w. own u rs;
}

-- a form that has no parts, at its site
pub apt_at_once : (n : ℕ) (a : StaticContext) (s : Tables) (p : Place) (x : Leaf) → Stage a s → 1 ≤ all_nodes (leaf_form x) → ((h k : Definitions) → Numbered h k (leaf_form x))
    → ((h : Definitions) → a.spot.depth + 1 ≤ 1000 → RightAt h a (leaf_form x))
    → AptAt n a s (made_at_once a p s x)
apt_at_once n a s p x b some num r =
    apt_within n a s 1 p _ (λ l. apt_made n a s (deeper 1 a) p s [] (Ready x) b
    (plain_parts n a s [] (Ready x) b tt (λ u rs c. r (defined u) l) (λ u rs. refl)
    (λ u rs c. omega (arith, some, none_found (spots (defined u) (deeper 1 a) (deeper 1 a) rs) rs c.match))
    (λ u rs. num (defined s) (defined u))))

-- lists of parts

pub both_apt : (n : ℕ) (i : StaticContext) (xs ys : List Part) → AllApt n i xs → AllApt n i ys → AllApt n i (xs ++ ys)
both_apt n i [] ys e f = f
both_apt n i (x ∷ xs) ys e f = (e.0, both_apt n i xs ys e.1 f)

pub forms_apt : (n : ℕ) (i : StaticContext) (ds : List Item) → AllOf (WellFormed n) ds → AllApt n i (each_form ds)
forms_apt n i [] g = tt
forms_apt n i (d ∷ ds) g = (g.0, forms_apt n i ds g.1)

pub below_apt : (n : ℕ) (i : StaticContext) (ds : List Item) → AllOf (WellFormed n) ds → AllApt n i (each_below ds)
below_apt n i [] g = tt
below_apt n i (d ∷ ds) g = (g.0, below_apt n i ds g.1)

pub inner_apt : (n : ℕ) (i : StaticContext) (ds : List Item) → AllOf (WellFormed n) ds → AllApt n i (each_inner ds)
inner_apt n i [] g = tt
inner_apt n i (d ∷ ds) g = (g.0, inner_apt n i ds g.1)

pub bound_apt : (n : ℕ) (i : StaticContext) (qs : List Pair) → i.spot.top ≡ false → WellFormedPairs n qs → AllApt n i (each_bound qs)
bound_apt n i [] l g = tt
bound_apt n i (q ∷ qs) l g = ((g.0, l), bound_apt n i qs l g.1)

pub parameters_apt : (n : ℕ) (i : StaticContext) (xs : List Symbol) → i.spot.top ≡ false → AllApt n i (each_parameter xs)
parameters_apt n i [] l = tt
parameters_apt n i (x ∷ xs) l = (l, parameters_apt n i xs l)

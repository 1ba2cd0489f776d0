-- The rows of exits are apt.
use Rattle.std.proofs.Common.{◌≡◌, ◌+◌, ℕ, List, [], ◌∷◌, ◌++◌, length, Option, Some, None, refl, subst, arith}
use Rattle.base.specs.declared.place.Place.{Place}
use Rattle.base.specs.declared.datum.Name.{Name}
use Rattle.base.specs.declared.datum.Symbol.{Symbol}
use Rattle.base.specs.declared.reason.Reason.{Reason}
use Rattle.base.specs.Data.{Item}
use Rattle.base.specs.AllOf.{AllOf}
use Rattle.base.specs.WellFormedData.{WellFormed}
use Rattle.lang_meaning.specs.declared.scope.LexicalScope.{LexicalScope}
use Rattle.lang_meaning.specs.declared.scope.ExitForm.TheVariants as exit
use Rattle.lang_meaning.specs.Form.{Form}
use Rattle.lang_meaning.specs.Standing.{with_around}
use Rattle.front_profile.specs.declared.tables.Tables.{Tables}
use Rattle.front_profile.specs.declared.bound.Target.{Target}
use Rattle.front_profile.specs.declared.bound.Bound.TheVariants.{Block, Tags}
use Rattle.front_profile.specs.declared.elaboration.Leaf.TheVariants.{Go}
use Rattle.front_profile.specs.declared.elaboration.One.TheVariants.{ReturnTo}
use Rattle.front_profile.specs.declared.elaboration.Elaboration.TheVariants.{OfBlock, OfSegments}
use Rattle.front_profile.specs.Names.{block_of, tag_of}
use Rattle.front_profile.specs.Nodes.{StaticContext, with_bound}
use Rattle.front_profile.specs.Elaborations.{forms_found}
use Rattle.front_profile.specs.Shapes.{symbol_of, name_of, all_differ, tags_in, forms_in, symbols_of_rest, before, one_longer, lengths_in}
use Rattle.front_profile.specs.RowWords.{deeper, no_such, each_inner}
use Rattle.front_profile.specs.ExitRows.{with_exit, block_as, block_row, return_to_exit, return_as, return_from_row, tagbody_row, go_to, go_as, go_row}
use Rattle.front_profile.specs.bridge.WellFormedParts.{good_forms}
use Rattle.front_profile.specs.Definitions.{Definitions, defined}
use Rattle.front_profile.specs.Places.{scope_of}
use Rattle.front_profile.specs.Right.{RightIn}
use Rattle.front_profile.proofs.Definitions.{entered_numbers, counted_same}
use Rattle.front_profile.proofs.Nodes.{block_nodes, tagbody_nodes}
use Rattle.front_profile.proofs.Numbers.{next_number}
use Rattle.front_profile.proofs.FoundNodes.{inner_plain, forms_counted, inner_as_many, lengths_added, enough_nodes}
use Rattle.front_profile.proofs.Good.{good_deeper, good_block, good_tags, block_scope, tags_scope}
use Rattle.front_profile.proofs.Places.{block_there, tag_there}
use Rattle.front_profile.proofs.MadeForms.{made_block, made_tagbody, made_go}
use Rattle.front_profile.proofs.Wanted.{spots, AptAt, Stage}
use Rattle.front_profile.proofs.Apt.{apt_if, apt_within, apt_made, apt_at_once, inner_apt}
use Rattle.front_profile.proofs.Procedures.{inner_ordinary}
use Rattle.front_profile.proofs.PartsFound.{found_inner}
use Rattle.front_profile.proofs.ValueRows.{apt_one}

apt_no_such : (n : ℕ) (a : StaticContext) (s : Tables) (p : Place) (r : Reason) (name : Option Name) → AptAt n a s (no_such p r name)
apt_no_such n a s p r None = tt
apt_no_such n a s p r (Some name) = tt

-- two deeper is one deeper twice
pub two_deeper : (g : Definitions) (s : LexicalScope) (n : ℕ) (fs : List Form) → AllOf (RightIn g s (n + 2)) fs → AllOf (RightIn g s (n + 1 + 1)) fs
two_deeper g s n fs e = let same : n + 2 ≡ n + 1 + 1 = omega arith in subst (λ k. AllOf (RightIn g s k) fs) same e

in_scope : (g : Definitions) (s t : LexicalScope) (n : ℕ) (fs : List Form) → s ≡ t → AllOf (RightIn g s n) fs → AllOf (RightIn g t n) fs
in_scope g s t n fs e r = subst (λ (u : LexicalScope). AllOf (RightIn g u n) fs) e r

-- block and return-from

apt_block_as : (n : ℕ) (a : StaticContext) (s : Tables) (p : Place) (x : Option Symbol) (fs : List Item) → Stage a s → AllOf (WellFormed n) fs → AptAt n a s (block_as a s p x fs)
apt_block_as n a s p None fs b g = tt
apt_block_as n a s p (Some x) fs b g =
    let i : StaticContext = with_bound (Block x s.exits) (deeper 2 a) in
    apt_within n a s 2 p _ (λ l. apt_made n a s i p (with_exit s) (each_inner fs) (OfBlock s.exits) b (record {
      entered = entered_numbers (defined s) s.variables (s.exits + 1) (omega arith) (omega arith) b.whole;
      inside = good_block (defined s) x (deeper 2 a) refl (good_deeper (defined s) 2 a b.good);
      low = λ k. refl;
      sited = refl;
      ordinary = inner_ordinary fs;
      start = record { sites = (counted_same a.spot.sited (defined s)).sites };
      parts = inner_apt n i fs g;
      right = λ u rs c.
          made_block (defined u) (scope_of a) a.spot.depth s.exits (forms_found rs) (omega (arith, l))
          (two_deeper (defined u) (with_around s.exits exit.Block (scope_of a)) a.spot.depth (forms_found rs)
          (in_scope (defined u) (scope_of i) (with_around s.exits exit.Block (scope_of a)) (a.spot.depth + 2) (forms_found rs)
          (block_scope x s.exits (deeper 2 a)) (found_inner (defined u) (deeper 1 a) i fs rs c.match)));
      ends = λ u rs. refl;
      nodes = λ u rs c.
          enough_nodes _ _ _ (forms_counted (spots (defined u) (deeper 1 a) i rs) (each_inner fs) rs c.match (inner_plain fs)) (block_nodes s.exits (forms_found rs));
      own = λ u rs c m.
          next_number s.exits u.exits s.exits (omega arith) (omega (arith, c.later.exits));
    }))

pub apt_block : (n : ℕ) (a : StaticContext) (s : Tables) (p : Place) (ds : List Item) → Stage a s → AllOf (WellFormed n) ds → AptAt n a s (block_row a s p ds)
apt_block n a s p [] b g = tt
apt_block n a s p (d ∷ fs) b g = apt_block_as n a s p (symbol_of d) fs b g.1

apt_return_to : (n : ℕ) (a : StaticContext) (s : Tables) (p : Place) (x : Symbol) (e : Option ℕ) (d : Item) → Stage a s → block_of a.bound x ≡ e → WellFormed n d
    → AptAt n a s (return_to_exit a s p x e d)
apt_return_to n a s p x None d b h g = apt_no_such n a s p _ (name_of x)
apt_return_to n a s p x (Some e) d b h g = apt_one n a p s (ReturnTo e) d b (block_there x a.bound 0 s.exits e b.good.exits h) g

apt_return_as : (n : ℕ) (a : StaticContext) (s : Tables) (p : Place) (x : Option Symbol) (d : Item) → Stage a s → WellFormed n d → AptAt n a s (return_as a s p x d)
apt_return_as n a s p None d b g = tt
apt_return_as n a s p (Some x) d b g = apt_return_to n a s p x (block_of a.bound x) d b refl g

pub apt_return_from : (n : ℕ) (a : StaticContext) (s : Tables) (p : Place) (ds : List Item) → Stage a s → AllOf (WellFormed n) ds → AptAt n a s (return_from_row a s p ds)
apt_return_from n a s p (x ∷ d ∷ []) b g = apt_return_as n a s p (symbol_of x) d b g.1.0
apt_return_from n a s p [] b g = tt
apt_return_from n a s p (x ∷ []) b g = tt
apt_return_from n a s p (x ∷ d ∷ e ∷ ds) b g = tt

-- tagbody and go: one segment more than tags

longer_counted : (ns : List ℕ) (k : ℕ) → length ns ≡ k + 1 → length (one_longer ns) ≡ k + 1
longer_counted [] k e = absurd (omega (arith, e))
longer_counted (n ∷ ns) k e = e

before_counted : (x : Option Symbol) (ns : List ℕ) (tags : List Symbol) → length ns ≡ length tags + 1
    → length (before x ns) ≡ length (symbols_of_rest x ++ tags) + 1
before_counted None ns tags e = longer_counted ns (length tags) e
before_counted (Some x) ns tags e = omega (arith, e)

lengths_counted : (ds : List Item) → length (lengths_in ds) ≡ length (tags_in ds) + 1
lengths_counted [] = refl
lengths_counted (d ∷ ds) = before_counted (symbol_of d) (lengths_in ds) (tags_in ds) (lengths_counted ds)

pub apt_tagbody : (n : ℕ) (a : StaticContext) (s : Tables) (p : Place) (ds : List Item) → Stage a s → AllOf (WellFormed n) ds → AptAt n a s (tagbody_row a s p ds)
apt_tagbody n a s p ds b g =
    let i : StaticContext = with_bound (Tags (tags_in ds) s.exits) (deeper 2 a) in
    let t : LexicalScope = with_around s.exits (exit.Tagbody (length (tags_in ds) + 1)) (scope_of a) in
    apt_if n a s (all_differ (tags_in ds)) _ _
    (apt_within n a s 2 p _ (λ l. apt_made n a s i p (with_exit s) (each_inner (forms_in ds)) (OfSegments s.exits (lengths_in ds)) b (record {
      entered = entered_numbers (defined s) s.variables (s.exits + 1) (omega arith) (omega arith) b.whole;
      inside = good_tags (defined s) (tags_in ds) (deeper 2 a) refl (good_deeper (defined s) 2 a b.good);
      low = λ k. refl;
      sited = refl;
      ordinary = inner_ordinary (forms_in ds);
      start = record { sites = (counted_same a.spot.sited (defined s)).sites };
      parts = inner_apt n i (forms_in ds) (good_forms n ds g);
      right = λ u rs c.
          made_tagbody (defined u) (scope_of a) a.spot.depth s.exits (length (tags_in ds)) (lengths_in ds) (forms_found rs) (omega (arith, l)) (lengths_counted ds)
          (two_deeper (defined u) t a.spot.depth (forms_found rs)
          (in_scope (defined u) (scope_of i) t (a.spot.depth + 2) (forms_found rs)
          (tags_scope (tags_in ds) s.exits (deeper 2 a)) (found_inner (defined u) (deeper 1 a) i (forms_in ds) rs c.match)));
      ends = λ u rs. refl;
      nodes = λ u rs c.
          let many : length (forms_found rs) ≡ length (forms_in ds) = inner_as_many (spots (defined u) (deeper 1 a) i rs) (forms_in ds) rs c.match in
          enough_nodes _ _ _ (forms_counted (spots (defined u) (deeper 1 a) i rs) (each_inner (forms_in ds)) rs c.match (inner_plain (forms_in ds)))
          (tagbody_nodes s.exits (lengths_in ds) (forms_found rs) (omega (arith, many, lengths_added ds)));
      own = λ u rs c m.
          next_number s.exits u.exits s.exits (omega arith) (omega (arith, c.later.exits));
    })))
    tt

apt_go_to : (n : ℕ) (a : StaticContext) (s : Tables) (p : Place) (x : Symbol) (target : Option Target) → Stage a s → tag_of a.bound x ≡ target → AptAt n a s (go_to a s p x target)
apt_go_to n a s p x None b h = apt_no_such n a s p _ (name_of x)
apt_go_to n a s p x (Some t) b h =
    apt_at_once n a s p (Go t.exit t.segment) b (omega arith) (λ h k. record { numbers = refl }) (λ k l. made_go k (scope_of a) a.spot.depth t.exit t.segment l (tag_there x a.bound 0 s.exits t b.good.exits h))

apt_go_as : (n : ℕ) (a : StaticContext) (s : Tables) (p : Place) (x : Option Symbol) → Stage a s → AptAt n a s (go_as a s p x)
apt_go_as n a s p None b = tt
apt_go_as n a s p (Some x) b = apt_go_to n a s p x (tag_of a.bound x) b refl

pub apt_go : (n : ℕ) (a : StaticContext) (s : Tables) (p : Place) (ds : List Item) → Stage a s → AptAt n a s (go_row a s p ds)
apt_go n a s p (d ∷ []) b = apt_go_as n a s p (symbol_of d) b
apt_go n a s p [] b = tt
apt_go n a s p (d ∷ e ∷ ds) b = tt

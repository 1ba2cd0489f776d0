-- What a good datum comes to at a good place beside whole tables is right, and the tables behind it are whole.
use Rattle.std.proofs.Common.{◌≡◌, ℕ, true, List, length, refl, sym, ap, subst, ◌∙◌}
use Rattle.base.specs.WellFormedData.{WellFormed}
use Rattle.lang_derived.specs.WellFormedSteps.{StepsAreWellFormed}
use Rattle.lang_taken.specs.Laws.{LawOfForm}
use Rattle.front_profile.specs.declared.tables.Tables.{Tables}
use Rattle.front_profile.specs.Nodes.{StaticContext, Part, Node, Verdict, stands as comes_to, behind}
use Rattle.front_profile.specs.declared.spot.Spot.{Spot}
use Rattle.front_profile.specs.Rows.{node}
use Rattle.front_profile.specs.Judged.{with_fresh, with_expansion, again, subject, Verdicts, Elaborates, offence, step, expanded, expansion_stops, made, ElaboratesAll, ends, goes, stops}
use Rattle.front_profile.specs.Definitions.{Definitions, defined, Later, SoundDefinitions}
use Rattle.front_profile.specs.Places.{EmptyContext, WellFormedContext}
use Rattle.front_profile.specs.Right.{NodesCounted}
use Rattle.front_profile.proofs.Definitions.{later_same, undefined_same, counted_same}
use Rattle.front_profile.proofs.Good.{good_later, good_again}
use Rattle.front_profile.proofs.Wanted.{AllApt, Want, right_at, LeavesAs, Apt, Stage}
use Rattle.front_profile.proofs.ClassRules.{ClassRules}
use Rattle.front_profile.proofs.Expansions.{expansions_good}
use Rattle.front_profile.proofs.AllRows.{apt_node}
use Rattle.front_profile.proofs.Parts.{CameAs, CameTo, AllCameTo, part_place, part_spot, part_tables, moved, came_again, as_wanted, whole_came, part_apt}
use Rattle.front_profile.proofs.PartsBehind.{later_part, leaves_later, leaves_sound, one_more_came, good_behind, elsewhere, same_spot}

module _ (keep : StepsAreWellFormed) (form : LawOfForm) (rules : ClassRules) where
  mutual
    pub node_came : (names : List (List ℕ)) (x : Node) (v : Verdict) → Elaborates names x v → (Q : Want) (spot : Spot) (g : Definitions)
        → Apt Q spot (length names) g x → CameTo Q spot g v
    node_came names x v (offence p r) Q spot g a = tt
    node_came names x v (step b s d d2 n v2 h c) Q spot g a =
        let stage : Stage b (with_fresh n s) = record { good = a.good; whole = a.entered.whole } in
        let good : WellFormed (length names) d2 = keep names d _ d2 _ a.datum h in
        let here : CameTo (right_at b) b.spot (defined (with_fresh n s)) v2 =
        node_came names (node names b (with_fresh n s) d2) v2 c (right_at b) b.spot (defined (with_fresh n s))
        (apt_node rules names (length names) b (with_fresh n s) d2 stage good) in
        let start : NodesCounted b.spot.sited g (defined s) 0 = subst (λ (t : Spot). NodesCounted t.sited g (defined s) 0) (sym a.same_spot) a.start in
        as_wanted b Q spot g v2 a.wanted a.same_spot (moved b g (defined s) v2 a.entered start here)
    node_came names x v (expanded b s macro d e v2 h c) Q spot g a =
        let stage : Stage (again b) (with_expansion s) = record { good = good_again (defined s) b a.good; whole = a.entered.whole } in
        let good : WellFormed (length names) e = expansions_good form names s macro d _ e h in
        let here : CameTo (right_at (again b)) (again b).spot (defined (with_expansion s)) v2 =
        node_came names (node names (again b) (with_expansion s) e) v2 c (right_at (again b)) (again b).spot (defined (with_expansion s))
        (apt_node rules names (length names) (again b) (with_expansion s) e stage good) in
        let start : NodesCounted b.spot.sited g (defined s) 0 = subst (λ (t : Spot). NodesCounted t.sited g (defined s) 0) (sym a.same_spot) a.start in
        as_wanted b Q spot g v2 a.wanted a.same_spot (moved b g (defined s) v2 a.entered start (came_again b (defined s) v2 here))
    node_came names x v (expansion_stops b s macro d r h) Q spot g a = tt
    node_came names x v (made o i s xs m w g) Q spot g2 a =
        whole_came Q spot (length names) g2 o i s xs m w a
        (all_came names o i s xs w g a.entered.whole a.outside a.inside a.level (a.sited.1 ∙ sym a.sited.0) a.parts)

    all_came : (names : List (List ℕ)) (o i : StaticContext) (s : Tables) (xs : List Part) (w : Verdicts) → ElaboratesAll names o i s xs w → SoundDefinitions (defined s)
        → WellFormedContext (defined s) o → WellFormedContext (defined s) i → (i.spot.top ≡ true → EmptyContext o) → i.spot.sited ≡ o.spot.sited → AllApt (length names) i xs → AllCameTo o i (defined s) xs w
    all_came names o i s xs w (ends o2 i2 s2) b go gi level e a = (
      record {
        whole = b;
        later = later_same (defined s2);
        main = refl;
        same = λ l. record { classes = refl; generics = refl; functions = refl };
        made = λ l. refl;
        undefined = λ p l. undefined_same (defined s2);
        stand = λ p e. e;
        newer = tt;
        match = tt;
      },
      counted_same o2.spot.sited (defined s2),
      record { forms = tt; values = tt; variables = refl },
    )
    all_came names o i s xs w (goes o2 i2 s2 x ys m w2 c g) b go gi level e a =
        let here : CameAs (part_place o2 i2 x) (part_spot o2 i2 x) (defined (part_tables s2 x)) m =
        node_came names (subject names o2 i2 s2 x) (comes_to m) c (part_place o2 i2 x) (part_spot o2 i2 x) (defined (part_tables s2 x))
        (part_apt rules names (length names) o2 i2 s2 x b go gi level e a.0) in
        let left : LeavesAs (part_place o2 i2 x) (part_spot o2 i2 x).top (defined (part_tables s2 x)) (defined m.tables) = here.leaves in
        let later : Later (defined (part_tables s2 x)) (defined m.tables) =
        leaves_later (part_place o2 i2 x) (part_spot o2 i2 x).top (defined (part_tables s2 x)) (defined m.tables) left in
        one_more_came o2 i2 s2 x ys m w2 (length names) b e a.0 here
        (all_came names o2 (behind i2 s2 x) m.tables ys w2 g
        (leaves_sound (part_place o2 i2 x) (part_spot o2 i2 x).top (defined (part_tables s2 x)) (defined m.tables) left)
        (good_later (defined s2) (defined m.tables) o2 (later_part s2 x (defined m.tables) b later) go)
        (good_behind i2 s2 x (length names) (defined m.tables) a.0 gi later)
        (λ k. level (ap (λ (t : Spot). t.top) (same_spot i2 s2 x) ∙ k))
        (ap (λ (t : Spot). t.sited) (sym (same_spot i2 s2 x)) ∙ e)
        (elsewhere (length names) i2 (behind i2 s2 x) ys (same_spot i2 s2 x) a.1))
    all_came names o i s xs w (stops o2 i2 s2 x ys y c) b go gi level e a = tt

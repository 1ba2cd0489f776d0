-- Each line is good with the places of a choice.
use Rattle.std.proofs.Common.{inl, inr, ◌≡◌, ◌≢◌, ℕ, ◌+◌, ◌<◌, Bool, true, false, List, [], ◌∷◌, map, Some, None, option_map, refl, sym, ap, subst, ◌∙◌, eqb-true, eq-eqb}
use Rattle.std.specs.Prelude.{◌⊎◌, ◌==◌, slice_get}
use Rattle.std.specs.List.{list_any}
use Rattle.std.proofs.lemmas.List.Folds.{list_any-append}
use Rattle.mid_code.specs.declared.operation.Callee.{Callee}
use Rattle.mid_code.specs.declared.operation.Operation.{Operation}
use Rattle.mid_code.specs.declared.operation.Operation.TheVariants as operation
use Rattle.mid_lines.specs.declared.line.Line.{Line}
use Rattle.mid_lines.specs.declared.line.Line.TheVariants.{Do, Branch, Switch, Jump, Lay, Landed, GiveBack, Lend, GiveBackLent, Return, Cut, Halt, Unhandled}
use Rattle.mid_lines.specs.declared.line.LineProgram.{LineProgram}
use Rattle.back_places.specs.declared.place.Place.{Place}
use Rattle.back_places.specs.Places.{StaticRecord, with_landing, only_lent, Located}
use Rattle.back_places.specs.Facts.{Apart, Outlasts, IsSomewhere, Reads, Gives, Keeps, KeepsEach, ToLandings, GivesWord, Computes, GoodOperation, GoodLine, callee_registers}
use Rattle.back_places.specs.StepLaw.{Known}
use Rattle.back_places.specs.Trivial.{ToRecords, SameRecords, RecordsFollow, ArgumentsFit}
use Rattle.back_trivial.specs.OwnSlots.{is_there}
use Rattle.back_liveness.specs.declared.step.Step.{Step}
use Rattle.back_liveness.proofs.Lists.{or_back}
use Rattle.back_liveness.proofs.Forwards.{or_front}
use Rattle.back_allocation.specs.LineSteps.{landings_of, line_reads, line_gives, line_falls, line_aside, step_of, steps_from}
use Rattle.back_allocation.specs.Names.{named_callee, named_line, read_name, given_name, NamesStand}
use Rattle.back_allocation.specs.Standing.{MayCut, CanBeGiven, StandsWell}
use Rattle.back_allocation.specs.Allocated.{Choice, is_chosen, place_given, source_in, target_in, IsAllocated}
use Rattle.back_allocation.proofs.Facts.{Stands, told, tells, At, step_there}
use Rattle.back_allocation.proofs.Naming.{is_one, is_first, is_later, in_map, reads_named, gives_named, falls_named, aside_named, may_cut_named}

some_of : (a b : ℕ) → Some a ≡ Some b → a ≡ b
some_of a b h = cc

module _ (program : LineProgram) (l : Located) (c : Choice) (t : IsAllocated program l c) where
  abbrev Fact : (number line register : ℕ) → Place → Type 0
  Fact = Known (is_chosen program c)

  module _ (number line : ℕ) (x : Line) (i : At program c number line x) where
    abbrev landings : List ℕ
    landings = landings_of (l.records number line)

    -- the names of registers at the line
    abbrev f : ℕ → ℕ
    f = read_name x i.named

    abbrev g : ℕ → ℕ
    g = given_name i.named

    -- the line with these names, which is the one that was chosen
    abbrev y : Line
    y = named_line f g x

    at : slice_get (c.lines number) line ≡ Some y
    at = i.at ∙ ap Some i.naming.is

    well : StandsWell (c.lines number) (λ n. landings_of (l.records number n)) (c.spot number) (c.alive number)
    well = (t.stand number i.procedure i.there).well

    alone : NamesStand (c.lines number) i.procedure.registers (c.owner number) (c.names number) (c.spot number) (c.alive number)
    alone = t.owned number i.procedure i.there

    abbrev step : Step
    step = step_of landings y

    step_is : slice_get (steps_from (λ n. landings_of (l.records number n)) 0 (c.lines number)) line ≡ Some step
    step_is = step_there (λ n. landings_of (l.records number n)) line (c.lines number) y at

    fact :
        (at v w : ℕ) (p : Place) → w < c.names number → c.owner number w ≡ v → c.alive number w at ≡ true → p ≡ c.spot number w → Fact number at v p
    fact at v w p below owner alive e = tells program c number at v w p i.procedure i.there below owner alive e

    source_is : (v : ℕ) → l.source number line v ≡ c.spot number (f v)
    source_is v =
        t.sources number line v ∙ (ap (λ o. source_in (c.spot number) o (slice_get (c.lines number) line) v) i.line_is ∙ ap (λ o. source_in (c.spot number) (Some x) o v) i.at)

    read : (v : ℕ) → is_one v (line_reads x) → c.alive number (f v) line ≡ true
    read v h = well.along.reads (f v) line step step_is (subst (λ vs. is_one (f v) vs) (sym (reads_named f g x)) (in_map f v (line_reads x) h))

    pub reads : (vs : List ℕ) → ((v : ℕ) → is_one v vs → is_one v (line_reads x)) → Reads l Fact number line vs
    reads [] h = tt
    reads (v ∷ vs) h = (
      (let own = i.naming.reads v (h v (is_first v vs)) in
          fact line v (f v) (l.source number line v) own.1 own.0 (read v (h v (is_first v vs))) (source_is v)),
      reads vs (λ u k. h u (is_later v u vs k)),
    )

    behind : (w : ℕ) → line_falls x ≡ true → line_gives y ≢ Some w → c.alive number w (line + 1) ≡ true → c.alive number w line ≡ true
    behind w falls ne h = well.along.behind w line step step_is (falls_named f g x ∙ falls) ne h

    aside : (w to : ℕ) → is_one to (line_aside landings x) → c.alive number w to ≡ true → c.alive number w line ≡ true
    aside w to k h = well.along.aside w line to step step_is (ap (list_any (λ n. n == to)) (aside_named f g landings x) ∙ k) h

    gives_is : (to : ℕ) → line_gives x ≡ Some to → line_gives y ≡ Some (g to)
    gives_is to k = gives_named f g x ∙ ap (option_map g) k

    pub target_is : (to : ℕ) → line_gives x ≡ Some to → l.target number line ≡ c.spot number (g to)
    target_is to k =
        t.targets number line
        ∙ (ap (λ o. target_in (c.spot number) o (slice_get (c.lines number) line)) i.line_is
        ∙ (ap (target_in (c.spot number) (Some x)) at ∙ ap (place_given (c.spot number)) (gives_is to k)))

    -- the word that the line gives can be given at its target
    pub can_be : (to : ℕ) → line_gives x ≡ Some to → CanBeGiven y (l.target number line)
    can_be to k = subst (CanBeGiven y) (sym (target_is to k)) (well.somewhere line (g to) y at (gives_is to k))

    pub gives : (to : ℕ) → line_gives x ≡ Some to → line_falls x ≡ true → Gives l Fact number line to (line + 1)
    gives to k falls v p h = by (s.name == g to) refl
      where
        s : Stands program c number (line + 1) v p
        s = told program c number (line + 1) v p h

        by : (b : Bool) → (s.name == g to) ≡ b → ((v ≡ to) × (p ≡ l.target number line)) ⊎ ((v ≢ to) × Fact number line v p × Apart p (l.target number line))
        by true e =
            let q : s.name ≡ g to = eqb-true s.name (g to) e in
            inl (sym s.owner_is ∙ (ap (c.owner number) q ∙ (i.naming.gives to k).0), s.place_is ∙ (ap (c.spot number) q ∙ sym (target_is to k)))
        by false e =
            let ne : s.name ≢ g to = λ q. absurd (cc (e, eq-eqb s.name (g to) q)) in
            let other = alone.alone line (g to) s.name y at (gives_is to k) s.below s.alive ne in
            let apart = well.given line (g to) s.name y at (gives_is to k) s.alive ne in
            inr (
              λ q. other (s.owner_is ∙ (q ∙ sym (i.naming.gives to k).0)),
              fact line v s.name p s.below s.owner_is (behind s.name falls (λ d. ne (sym (some_of (g to) s.name (sym (gives_is to k) ∙ d)))) s.alive) s.place_is,
              subst (λ a. Apart a (l.target number line)) (sym s.place_is) (subst (Apart (c.spot number s.name)) (sym (target_is to k)) apart),
            )

    pub never : (next : ℕ) → l.linked number next ≡ true → l.linked number line ≡ true
    never next e = absurd (cc (e, t.unlinked number next))

    gives_none : line_gives x ≡ None → line_gives y ≡ None
    gives_none k = gives_named f g x ∙ ap (option_map g) k

    pub facts_behind : line_gives x ≡ None → line_falls x ≡ true → (v : ℕ) (p : Place) → Fact number (line + 1) v p → Fact number line v p
    facts_behind none falls v p h =
        let s = told program c number (line + 1) v p h in
        fact line v s.name p s.below s.owner_is (behind s.name falls (λ k. absurd (cc (sym (gives_none none) ∙ k))) s.alive) s.place_is

    pub keeps_behind : line_gives x ≡ None → line_falls x ≡ true → l.records number (line + 1) ≡ l.records number line → Keeps l Fact number line (line + 1)
    keeps_behind none falls r = record { facts = facts_behind none falls; linked = never (line + 1); records = r }

    pub keeps_aside : (to : ℕ) → is_one to (line_aside landings x) → l.records number to ≡ l.records number line → Keeps l Fact number line to
    keeps_aside to one r = record {
      facts = λ v p h.
          (let s = told program c number to v p h in fact line v s.name p s.below s.owner_is (aside s.name to one s.alive) s.place_is);
      linked = never to;
      records = r;
    }

    pub keeps_each :
        (targets : List ℕ) → ((v : ℕ) → is_one v targets → is_one v (line_aside landings x)) → SameRecords l number line targets
        → KeepsEach l Fact number line targets
    keeps_each [] h r = tt
    keeps_each (to ∷ targets) h r = (
      keeps_aside to (h to (is_first to targets)) r.0,
      keeps_each targets (λ u k. h u (is_later to u targets k)) r.1,
    )

    pub to_landings :
        MayCut x → (records : List StaticRecord) → ((v : ℕ) → is_one v (landings_of records) → is_one v landings)
        → ((v : ℕ) → is_one v landings → is_one v (line_aside landings x)) → ToRecords l number records → ToLandings l Fact number line records
    to_landings may [] h all r = tt
    to_landings may (only_lent ∷ records) h all r = to_landings may records h all r
    to_landings may (with_landing words landing ∷ records) h all r =
        let one = h landing (is_first landing (landings_of records)) in (
          record {
            facts = λ v p k.
                let s = told program c number landing v p k in (
                  fact line v s.name p s.below s.owner_is (aside s.name landing (all landing one) s.alive) s.place_is,
                  subst Outlasts (sym s.place_is) (well.landed line landing s.name y at (may_cut_named f g x may) one s.alive),
                );
            unlinked = t.unlinked number landing;
            records = r.0;
          },
          to_landings may records (λ u k. h u (is_later landing u (landings_of records) k)) all r.1,
        )

    pub gives_word :
        (to : ℕ) (read : List ℕ) → line_gives x ≡ Some to → line_falls x ≡ true → Reads l Fact number line read
        → l.records number (line + 1) ≡ l.records number line → GivesWord l Fact number line to read
    gives_word to read k falls reads records =
        record { reads = reads; flows = gives to k falls; linked = never (line + 1); records = records }

    pub computes :
        (to : ℕ) (read : List ℕ) → line_gives x ≡ Some to → line_falls x ≡ true → IsSomewhere (l.target number line)
        → Reads l Fact number line read → l.records number (line + 1) ≡ l.records number line → Computes l Fact number line to read
    computes to read k falls somewhere reads records = record { gives = gives_word to read k falls reads records; somewhere = somewhere }

    pub saved : l.saves number ≡ true
    saved = t.saves number ∙ ap is_there i.there

    pub own_landings :
        MayCut x → ((v : ℕ) → is_one v landings → is_one v (line_aside landings x)) → ToLandings l Fact number line (l.records number line)
    own_landings may all = to_landings may (l.records number line) (λ v k. k) all (t.landings number line)

  -- what is known behind a call but its result outlasts calls
  call_flows :
      (number line to : ℕ) (callee : Callee) (arguments : List ℕ) (i : At program c number line (Do (operation.Call to callee arguments))) (v : ℕ) (p : Place)
      → Fact number (line + 1) v p
      → ((v ≡ to) × (p ≡ l.target number line)) ⊎ ((v ≢ to) × Fact number line v p × Outlasts p × Apart p (l.target number line))
  call_flows number line to callee arguments i v p h =
      elim (gives number line _ i to refl refl v p h) [
        | inl same ↦ inl same
        | inr other ↦
            (let s = told program c number (line + 1) v p h in
            let x : Line = Do (operation.Call to callee arguments) in
            let w = given_name i.named to in
            let ne : s.name ≢ w = λ q. other.0 (sym s.owner_is ∙ (ap (c.owner number) q ∙ (i.naming.gives to refl).0)) in
            inr (
              other.0,
              other.1,
              subst Outlasts (sym s.place_is)
                  ((well number line _ i).calls line w s.name (named_callee (read_name x i.named) (given_name i.named) callee) (map (read_name x i.named) arguments)
                  (at number line _ i) s.alive ne),
              other.2,
            ))
      ]

  good_operation :
      (number line : ℕ) (o : Operation) (i : At program c number line (Do o)) → RecordsFollow l number line (Do o) → ArgumentsFit l (Do o)
      → GoodOperation l Fact number line o
  good_operation number line (operation.Move to from) i records fit =
      computes number line _ i to (from ∷ []) refl refl (can_be number line _ i to refl) (reads number line _ i (from ∷ []) (λ v k. k)) records
  good_operation number line (operation.Constant to word) i records fit =
      (gives_word number line _ i to [] refl refl tt records, can_be number line _ i to refl)
  good_operation number line (operation.Compute to which first second) i records fit =
      computes number line _ i to (first ∷ second ∷ []) refl refl (can_be number line _ i to refl) (reads number line _ i (first ∷ second ∷ []) (λ v k. k)) records
  good_operation number line (operation.Load to base offset) i records fit =
      computes number line _ i to (base ∷ []) refl refl (can_be number line _ i to refl) (reads number line _ i (base ∷ []) (λ v k. k)) records
  good_operation number line (operation.Store from base offset) i records fit =
      record { reads = reads number line _ i (from ∷ base ∷ []) (λ v k. k); keeps = keeps_behind number line _ i refl refl records }
  good_operation number line (operation.Request to words) i records fit =
      computes number line _ i to (words ∷ []) refl refl (can_be number line _ i to refl) (reads number line _ i (words ∷ []) (λ v k. k)) records
  good_operation number line (operation.Draw to base offset) i records fit =
      computes number line _ i to (base ∷ []) refl refl (can_be number line _ i to refl) (reads number line _ i (base ∷ []) (λ v k. k)) records
  good_operation number line (operation.Put from) i records fit =
      record { reads = reads number line _ i (from ∷ []) (λ v k. k); keeps = keeps_behind number line _ i refl refl records }
  good_operation number line (operation.Get to) i records fit = computes number line _ i to [] refl refl (can_be number line _ i to refl) tt records
  good_operation number line (operation.Call to callee arguments) i records fit = record {
    reads = reads number line _ i arguments (λ v k. list_any-append (λ r. r == v) arguments (callee_registers callee) ∙ or_front (list_any (λ r. r == v) arguments) _ k);
    reads_callee =
        reads number line _ i (callee_registers callee)
        (λ v k. list_any-append (λ r. r == v) arguments (callee_registers callee) ∙ or_back (list_any (λ r. r == v) arguments) _ k);
    few = fit;
    flows = call_flows number line to callee arguments i;
    unlinked = t.unlinked number (line + 1);
    saves = saved number line _ i;
    landings = own_landings number line _ i tt (λ v k. k);
    records = records;
    somewhere = can_be number line _ i to refl;
  }

  pub good_line :
      (number line : ℕ) (x : Line) (i : At program c number line x) → RecordsFollow l number line x → ArgumentsFit l x → GoodLine l Fact number line x
  good_line number line (Do o) i records fit = good_operation number line o i records fit
  good_line number line (Branch test otherwise) i records fit = (
    record { reads = reads number line _ i (test.first ∷ test.second ∷ []) (λ v k. k); keeps = keeps_behind number line _ i refl refl records.0 },
    keeps_aside number line _ i otherwise (or_front (otherwise == otherwise) _ (eq-eqb otherwise otherwise refl)) records.1,
  )
  good_line number line (Switch r targets) i records fit =
      (reads number line _ i (r ∷ []) (λ v k. k), keeps_each number line _ i targets (λ v k. k) records)
  good_line number line (Jump to) i records fit = keeps_aside number line _ i to (or_front (to == to) _ (eq-eqb to to refl)) records
  good_line number line (Lay block words landing) i records fit = record {
    reads = tt;
    flows = gives number line _ i block refl refl;
    linked = never number line _ i (line + 1);
    records = records;
    somewhere = can_be number line _ i block refl;
  }
  good_line number line (Lend block words) i records fit = record {
    reads = reads number line _ i (words ∷ []) (λ v k. k);
    flows = gives number line _ i block refl refl;
    linked = never number line _ i (line + 1);
    records = records;
    somewhere = can_be number line _ i block refl;
  }
  good_line number line (Landed r) i records fit = record {
    flows = gives number line _ i r refl refl;
    unlinked = t.unlinked number (line + 1);
    saves = saved number line _ i;
    records = records;
    somewhere = can_be number line _ i r refl;
  }
  good_line number line (GiveBack words) i records fit = record {
    facts = facts_behind number line _ i refl refl;
    linked = never number line _ i (line + 1);
    record_is = records.0;
    records = records.1;
  }
  good_line number line GiveBackLent i records fit = record {
    facts = facts_behind number line _ i refl refl;
    linked = never number line _ i (line + 1);
    record_is = records.0;
    records = records.1;
  }
  good_line number line (Return r) i records fit =
      record { reads = reads number line _ i (r ∷ []) (λ v k. k); link = inr (saved number line _ i); way = records }
  good_line number line (Cut block word) i records fit = record {
    reads = reads number line _ i (block ∷ word ∷ []) (λ v k. k);
    landings = own_landings number line _ i tt (λ v k. k);
    saves = saved number line _ i;
  }
  good_line number line (Halt r) i records fit = reads number line _ i (r ∷ []) (λ v k. k)
  good_line number line (Unhandled class site condition) i records fit = reads number line _ i (class ∷ site ∷ condition ∷ []) (λ v k. k)

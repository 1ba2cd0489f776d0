-- A call of a macro has one expansion: what is told of it besides want is told of one run of its expander, under the
-- table of all names.
use Rattle.std.specs.Prelude.{◌≡◌, ◌⊎◌, ℕ, List, [], refl}
use Rattle.std.proofs.Common.{sym, subst, inl, inr, ⊎_elim}
use Rattle.base.specs.declared.place.Place.{Place}
use Rattle.base.specs.declared.reason.Reason.{Reason}
use Rattle.base.specs.declared.reason.Reason.TheVariants.{ExpanderUnhandled, ExpanderPrinted}
use Rattle.base.specs.Data.{Item, place_of}
use Rattle.base.specs.Names.{IsTable}
use Rattle.lang_meaning.specs.Laws.{LawOfLevels}
use Rattle.lang_meaning.specs.Meaning.{Meant, End, ended_value, ended_unhandled, ended_more}
use Rattle.lang_meaning.specs.State.{unlimited}
use Rattle.lang_meaning.specs.Values.{Value}
use Rattle.lang_renamed.specs.Laws.{LawOfMeaning}
use Rattle.lang_taken.specs.Failing.{DatumFails}
use Rattle.lang_taken.specs.Laws.{LawOfOneDatum, LawOfOneReason, LawOfEither}
use Rattle.lang_taken.specs.Taken.{DatumOf, greatest_size, greatest_depth}
use Rattle.front_profile.specs.declared.tables.Tables.{Tables}
use Rattle.front_profile.specs.Exact.{IsForWant, OneExpansion}
use Rattle.front_profile.specs.Expanders.{program_of}
use Rattle.front_profile.specs.Expansions.{HasExpander, expander_means, IsHalt, GivesSilently, Expands, ExpansionStops}
use Rattle.front_profile.specs.Expansions.{is_unhandled, has_printed, is_no_datum}
use Rattle.front_profile.specs.Expansions.{too_many_nodes, large_image, full, long, endless}
use Rattle.front_expansions.proofs.Later.{moves}
use Rattle.front_expansions.proofs.LaterData.{datum_later, fails_later}
use Rattle.front_expansions.proofs.OneRun.{IsFront, renamed_run, one_run}

-- ---- what a run tells

module _ (names : List (List ℕ)) (place : Place) (expansion : ℕ) (run : Meant) where
  -- the datum for which its value stands
  record Gives (d : Item) : Type 0 where
    value : Value
    gives : GivesSilently run value
    datum : DatumOf names run.store place expansion value d

  -- why there is none
  data Refuses : Reason → Type 0 where
    unhandled : (c : Value) (p : Place) → run.end ≡ ended_unhandled c p → Refuses ExpanderUnhandled
    printed : (v : Value) → run.end ≡ ended_value v → (run.printed ≡ [] → ⊥) → Refuses ExpanderPrinted
    no_datum :
        (v : Value) (r : Reason) → GivesSilently run v → DatumFails names run.store place expansion v r → Refuses r

module _ (names : List (List ℕ)) (table : IsTable names) (place : Place) (expansion : ℕ) (run : Meant) where
  abbrev Has : Item → Type 0
  Has d = Gives names place expansion run d

  abbrev Lacks : Reason → Type 0
  Lacks r = Refuses names place expansion run r

  -- it ends with one value
  same_value : (v w : Value) → run.end ≡ ended_value v → run.end ≡ ended_value w → v ≡ w
  same_value v w g h = cc

  one_datum : LawOfOneDatum → (d e : Item) → Has d → Has e → d ≡ e
  one_datum law d e g h =
      let same = same_value h.value g.value h.gives.ends g.gives.ends in
      let again = subst (λ v. DatumOf names run.store place expansion v e) same h.datum in
      let one = law names run.store place expansion greatest_depth greatest_size g.value d e g.datum.rest again.rest in
      (one table g.datum.taken again.taken).0

  not_both : LawOfEither → (d : Item) (r : Reason) → Has d → Lacks r → ⊥
  not_both law d r g (unhandled c p ends) = let x = g.gives.ends in cc
  not_both law d r g (printed v ends some) = some g.gives.silent
  not_both law d r g (no_datum v _ silently fails) =
      let same = same_value v g.value silently.ends g.gives.ends in
      law names run.store place expansion greatest_depth greatest_size g.value d g.datum.rest r table g.datum.taken
      (subst (λ v. DatumFails names run.store place expansion v r) same fails)

  one_reason : LawOfOneReason → (q r : Reason) → Lacks q → Lacks r → q ≡ r
  one_reason law q r (unhandled c p ends) (unhandled _ _ _) = refl
  one_reason law q r (unhandled c p ends) (printed v others some) = absurd (cc)
  one_reason law q r (unhandled c p ends) (no_datum v _ silently fails) = let others = silently.ends in absurd (cc)
  one_reason law q r (printed v ends some) (unhandled c p others) = absurd (cc)
  one_reason law q r (printed v ends some) (printed _ _ _) = refl
  one_reason law q r (printed v ends some) (no_datum w _ silently fails) = absurd (some silently.silent)
  one_reason law q r (no_datum v _ silently fails) (unhandled c p others) = let ends = silently.ends in absurd (cc)
  one_reason law q r (no_datum v _ silently fails) (printed w others some) = absurd (some silently.silent)
  one_reason law q r (no_datum v _ silently fails) (no_datum w _ silently2 fails2) =
      let same = same_value w v silently2.ends silently.ends in
      law names run.store place expansion greatest_depth greatest_size v q r table fails
      (subst (λ v. DatumFails names run.store place expansion v r) same fails2)

-- ---- the run of a call's expander

module _ (names : List (List ℕ)) (s : Tables) (m : ℕ) (d : Item) where
  abbrev ran : HasExpander names s m d → ℕ → Meant
  ran x k = expander_means x.table s m d k unlimited

  -- one that has ended, with a value or an unhandled condition
  record Run : Type 0 where
    expander : HasExpander names s m d
    levels : ℕ
    halts : IsHalt (ran expander levels).end

  abbrev front : (x : HasExpander names s m d) → IsFront names (program_of s m d) x.table
  front x = record { begins = x.begins; named = x.named }

  abbrev under_names : Run → Meant
  under_names x = renamed_run names (program_of s m d) [] unlimited x.expander.table (front x.expander) x.levels

  goes_on : (e : End) → IsHalt e → e ≡ ended_more → ⊥
  goes_on e h same = subst IsHalt same h

  same_run : LawOfMeaning → LawOfLevels → (x y : Run) → under_names x ≡ under_names y
  same_run law levels x y =
      one_run names (program_of s m d) [] unlimited law levels x.expander.table y.expander.table (front x.expander)
      (front y.expander) x.levels y.levels (goes_on _ x.halts) (goes_on _ y.halts)

  abbrev numbers : HasExpander names s m d → ℕ → ℕ
  numbers x = moves x.table names x.begins

  abbrev ended :
      (x : HasExpander names s m d) (k : ℕ) (e : End) → (ran x k).end ≡ e → IsHalt e → Run
  ended x k e is h = record { expander = x; levels = k; halts = subst IsHalt (sym is) h }

  module _ (expansion : ℕ) where
    -- what is told by that run: for which datum the call stands, or why it is refused
    abbrev StandsBy : Run → Item → Type 0
    StandsBy x e = Gives names (place_of d) expansion (under_names x) e

    abbrev RefusedBy : Run → Reason → Type 0
    RefusedBy x r = Refuses names (place_of d) expansion (under_names x) r

    -- each run tells it
    stands_by : LawOfMeaning → LawOfLevels → (x y : Run) (e : Item) → StandsBy y e → StandsBy x e
    stands_by law levels x y e h =
        subst (λ run. Gives names (place_of d) expansion run e) (same_run law levels y x) h

    refused_by : LawOfMeaning → LawOfLevels → (x y : Run) (r : Reason) → RefusedBy y r → RefusedBy x r
    refused_by law levels x y r h =
        subst (λ run. Refuses names (place_of d) expansion run r) (same_run law levels y x) h

    stands : (e : Item) → Expands names s m d expansion e → (x : Run) × StandsBy x e
    stands e g =
        let x = g.expander in (
          ended x g.levels (ended_value g.value) g.gives.ends tt,
          record {
            value = g.value;
            gives = record { ends = g.gives.ends; silent = g.gives.silent };
            datum = datum_later x.table names x.begins (numbers x) _ (place_of d) expansion g.value e g.datum;
          },
        )

    refused : (r : Reason) → ExpansionStops names s m d expansion r → IsForWant r ⊎ ((x : Run) × RefusedBy x r)
    refused r (is_unhandled x k c p ends) = inr (ended x k (ended_unhandled c p) ends tt, unhandled c p ends)
    refused r (has_printed x k v ends some) = inr (ended x k (ended_value v) ends tt, printed v ends some)
    refused r (is_no_datum x k v _ gives fails) =
        inr (
          ended x k (ended_value v) gives.ends tt,
          no_datum v r (record { ends = gives.ends; silent = gives.silent })
              (fails_later x.table names x.begins (numbers x) _ (place_of d) expansion v r fails),
        )
    refused r (too_many_nodes many) = inl (inl refl)
    refused r (large_image x left keeps large) = inl (inl refl)
    refused r (full x left room k asked over keeps fits ends) = inl (inl refl)
    refused r (long x k halts many) = inl (inr refl)
    refused r (endless x ends) = inl (inr refl)

-- **calls of macros have one expansion**
pub one_expansion :
    LawOfLevels → LawOfMeaning → LawOfOneDatum → LawOfOneReason → LawOfEither → (names : List (List ℕ)) → IsTable names
    → OneExpansion names
one_expansion levels law datum reason either names table = record {
  datum = λ s m d expansion e f g h.
      let x = stands names s m d expansion e g in
      let y = stands names s m d expansion f h in
      one_datum names table (place_of d) expansion (under_names names s m d x.0) datum e f x.1
      (stands_by names s m d expansion law levels x.0 y.0 f y.1);
  either = λ s m d expansion e r g h.
      let x = stands names s m d expansion e g in
      ⊎_elim (λ want. want)
      (λ y.
      absurd (not_both names table (place_of d) expansion (under_names names s m d x.0) either e r x.1
      (refused_by names s m d expansion law levels x.0 y.0 r y.1)))
      (refused names s m d expansion r h);
  reason = λ s m d expansion q r g h.
      ⊎_elim (λ want. inr (inl want))
      (λ x.
      ⊎_elim (λ want. inr (inr want))
      (λ y.
      inl (one_reason names table (place_of d) expansion (under_names names s m d x.0) reason q r x.1
      (refused_by names s m d expansion law levels x.0 y.0 r y.1)))
      (refused names s m d expansion r h)) (refused names s m d expansion q g);
}

-- What is good with some facts is good with others that are the same, also where return addresses are saved in fewer procedures: in those of the
-- lines in question.
use Rattle.std.proofs.Common.{inl, inr, ◌≡◌, ℕ, ◌+◌, true, List, [], ◌∷◌}
use Rattle.mid_code.specs.declared.operation.Callee.{Callee}
use Rattle.mid_code.specs.declared.operation.Operation.{Operation}
use Rattle.mid_code.specs.declared.operation.Operation.TheVariants as operation
use Rattle.mid_lines.specs.declared.line.Line.{Line}
use Rattle.mid_lines.specs.declared.line.Line.TheVariants.{Do, Branch, Switch, Jump, Lay, Landed, GiveBack, Lend, GiveBackLent, Return, Cut, Halt, Unhandled}
use Rattle.back_places.specs.declared.place.Place.{Place}
use Rattle.back_places.specs.declared.place.Place.TheVariants.{InRegister, InSlot, AsConstant}
use Rattle.back_places.specs.Places.{StaticRecord, with_landing, only_lent, Located}
use Rattle.back_places.specs.Facts.{Reads, Gives, Keeps, KeepsEach, ToLandings, GivesWord, OnlyReads, GoodCall, Computes, GoodOperation, GoodLay, GoodGiveBack, GoodLine, IsParameterPlace, AreParameterPlaces, AllApart, EachApart, GoodEntry}

-- decisions by which each procedure saves its return address
abbrev pub all_saved : Located → Located
all_saved l = record l { saves = λ number. true }

module _
    (l : Located) (F G : (number line register : ℕ) → Place → Type 0)
    (to : (number line register : ℕ) (p : Place) → F number line register p → G number line register p)
    (from : (number line register : ℕ) (p : Place) → G number line register p → F number line register p)
  where
    reads : (number line : ℕ) (vs : List ℕ) → Reads (all_saved l) F number line vs → Reads l G number line vs
    reads number line [] h = tt
    reads number line (v ∷ vs) h = (to number line v (l.source number line v) h.0, reads number line vs h.1)

    gives : (number line register next : ℕ) → Gives (all_saved l) F number line register next → Gives l G number line register next
    gives number line register next h v p f = elim (h v p (from number next v p f)) [
      | inl same ↦ inl same
      | inr other ↦ inr (other.0, to number line v p other.1, other.2)
    ]

    keeps : (number line next : ℕ) → Keeps (all_saved l) F number line next → Keeps l G number line next
    keeps number line next h = record { facts = λ v p f. to number line v p (h.facts v p (from number next v p f)); linked = h.linked; records = h.records }

    keeps_each : (number line : ℕ) (nexts : List ℕ) → KeepsEach (all_saved l) F number line nexts → KeepsEach l G number line nexts
    keeps_each number line [] h = tt
    keeps_each number line (next ∷ nexts) h = (keeps number line next h.0, keeps_each number line nexts h.1)

    to_landings : (number line : ℕ) (records : List StaticRecord) → ToLandings (all_saved l) F number line records → ToLandings l G number line records
    to_landings number line [] h = tt
    to_landings number line (only_lent ∷ records) h = to_landings number line records h
    to_landings number line (with_landing words landing ∷ records) h = (
      record {
        facts = λ v p f. let g = h.0.facts v p (from number landing v p f) in (to number line v p g.0, g.1);
        unlinked = h.0.unlinked;
        records = h.0.records;
      },
      to_landings number line records h.1,
    )

    gives_word : (number line register : ℕ) (vs : List ℕ) → GivesWord (all_saved l) F number line register vs → GivesWord l G number line register vs
    gives_word number line register vs h = record {
      reads = reads number line vs h.reads;
      flows = gives number line register (line + 1) h.flows;
      linked = h.linked;
      records = h.records;
    }

    computes : (number line register : ℕ) (vs : List ℕ) → Computes (all_saved l) F number line register vs → Computes l G number line register vs
    computes number line register vs h = record { gives = gives_word number line register vs h.gives; somewhere = h.somewhere }

    only_reads : (number line : ℕ) (vs : List ℕ) → OnlyReads (all_saved l) F number line vs → OnlyReads l G number line vs
    only_reads number line vs h = record { reads = reads number line vs h.reads; keeps = keeps number line (line + 1) h.keeps }

    good_lay :
        (number line block : ℕ) (vs : List ℕ) (s : StaticRecord) → GoodLay (all_saved l) F number line block vs s → GoodLay l G number line block vs s
    good_lay number line block vs s h = record {
      reads = reads number line vs h.reads;
      flows = gives number line block (line + 1) h.flows;
      linked = h.linked;
      records = h.records;
      somewhere = h.somewhere;
    }

    good_give_back : (number line : ℕ) → GoodGiveBack (all_saved l) F number line → GoodGiveBack l G number line
    good_give_back number line h = record {
      facts = λ v p f. to number line v p (h.facts v p (from number (line + 1) v p f));
      linked = h.linked;
      record_is = h.record_is;
      records = h.records;
    }

    module _ (number : ℕ) (saves : l.saves number ≡ true) where
      good_call :
          (line register : ℕ) (callee : Callee) (arguments : List ℕ) → GoodCall (all_saved l) F number line register callee arguments
          → GoodCall l G number line register callee arguments
      good_call line register callee arguments h = record {
        reads = reads number line arguments h.reads;
        reads_callee = reads number line _ h.reads_callee;
        few = h.few;
        flows = λ v p f. elim (h.flows v p (from number (line + 1) v p f)) [
          | inl same ↦ inl same
          | inr other ↦ inr (other.0, to number line v p other.1, other.2, other.3)
        ];
        unlinked = h.unlinked;
        saves = saves;
        landings = to_landings number line (l.records number line) h.landings;
        records = h.records;
        somewhere = h.somewhere;
      }

      good_operation : (line : ℕ) (o : Operation) → GoodOperation (all_saved l) F number line o → GoodOperation l G number line o
      good_operation line (operation.Move to_register from_register) h = computes number line to_register (from_register ∷ []) h
      good_operation line (operation.Constant register word) h = (gives_word number line register [] h.0, h.1)
      good_operation line (operation.Compute register which first second) h = computes number line register (first ∷ second ∷ []) h
      good_operation line (operation.Load register base offset) h = computes number line register (base ∷ []) h
      good_operation line (operation.Store register base offset) h = only_reads number line (register ∷ base ∷ []) h
      good_operation line (operation.Request register words) h = computes number line register (words ∷ []) h
      good_operation line (operation.Draw register base offset) h = computes number line register (base ∷ []) h
      good_operation line (operation.Put register) h = only_reads number line (register ∷ []) h
      good_operation line (operation.Get register) h = computes number line register [] h
      good_operation line (operation.Call register callee arguments) h = good_call line register callee arguments h

      pub good_line : (line : ℕ) (x : Line) → GoodLine (all_saved l) F number line x → GoodLine l G number line x
      good_line line (Do o) h = good_operation line o h
      good_line line (Branch t otherwise) h = (only_reads number line (t.first ∷ t.second ∷ []) h.0, keeps number line otherwise h.1)
      good_line line (Switch r targets) h = (reads number line (r ∷ []) h.0, keeps_each number line targets h.1)
      good_line line (Jump next) h = keeps number line next h
      good_line line (Lay block words landing) h = good_lay number line block [] (with_landing words landing) h
      good_line line (Landed r) h = record {
        flows = gives number line r (line + 1) h.flows;
        unlinked = h.unlinked;
        saves = saves;
        records = h.records;
        somewhere = h.somewhere;
      }
      good_line line (GiveBack words) h = good_give_back number line h
      good_line line (Lend block words) h = good_lay number line block (words ∷ []) only_lent h
      good_line line GiveBackLent h = good_give_back number line h
      good_line line (Return r) h = record { reads = reads number line (r ∷ []) h.reads; link = inr saves; way = h.way }
      good_line line (Cut block word) h = record {
        reads = reads number line (block ∷ word ∷ []) h.reads;
        landings = to_landings number line (l.records number line) h.landings;
        saves = saves;
      }
      good_line line (Halt r) h = reads number line (r ∷ []) h
      good_line line (Unhandled class site condition) h = reads number line (class ∷ site ∷ condition ∷ []) h

    -- entries

    parameter_place : (i : ℕ) (p : Place) → IsParameterPlace (all_saved l) F i p → IsParameterPlace l G i p
    parameter_place i (InRegister r) h = h
    parameter_place i (InSlot k) h = h
    parameter_place i (AsConstant w) h = h

    parameter_places : (i : ℕ) (ps : List Place) → AreParameterPlaces (all_saved l) F i ps → AreParameterPlaces l G i ps
    parameter_places i [] h = tt
    parameter_places i (p ∷ ps) h = (parameter_place i p h.0, parameter_places (i + 1) ps h.1)

    all_apart : (p : Place) (ps : List Place) → AllApart (all_saved l) F p ps → AllApart l G p ps
    all_apart p [] h = tt
    all_apart p (q ∷ ps) h = (h.0, all_apart p ps h.1)

    each_apart : (ps : List Place) → EachApart (all_saved l) F ps → EachApart l G ps
    each_apart [] h = tt
    each_apart (p ∷ ps) h = (all_apart p ps h.0, each_apart ps h.1)

    pub good_entry : (number frame parameters : ℕ) → GoodEntry (all_saved l) F number frame parameters → GoodEntry l G number frame parameters
    good_entry number frame parameters h = record {
      as_many = h.as_many;
      few = h.few;
      places = parameter_places 0 (l.parameters number) h.places;
      in_frame = h.in_frame;
      apart = each_apart (l.parameters number) h.apart;
      facts = λ v p f. h.facts v p (from number 0 v p f);
      no_records = h.no_records;
    }

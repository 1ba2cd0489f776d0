-- The laws of the kinds of lines.
use Rattle.std.proofs.Common.{arith}
use Rattle.mid_lines.specs.LineMeaning.{running}
use Rattle.mid_code.specs.declared.operation.Operation.TheVariants as operation
use Rattle.mid_lines.specs.declared.line.Line.TheVariants.{Do, Branch, Switch, Jump, Landed, GiveBack, GiveBackLent, Return, Halt, Unhandled}
use Rattle.back_places.specs.StepLaw.{Known, LawOfLine}
use Rattle.back_emission.specs.Kinds.{IsComputation, IsChoice, IsEnd, IsCall, IsAccess, IsGivenBack, IsPut, IsLanding}
use Rattle.back_emission.proofs.Jumps.{jump_follows, branch_follows, switch_follows}
use Rattle.back_emission.proofs.CallSteps.{call_follows}
use Rattle.back_emission.proofs.Loads.{load_follows}
use Rattle.back_emission.proofs.Records.{give_back_follows, give_back_lent_follows}
use Rattle.back_emission.proofs.Stores.{store_follows}
use Rattle.back_emission.proofs.Bytes.{put_follows}
use Rattle.back_emission.proofs.Steps.{at_line, nothing}
use Rattle.back_emission.proofs.Returns.{return_follows}
use Rattle.back_emission.proofs.Ends.{halt_follows, unhandled_follows}
use Rattle.back_emission.proofs.Moves.{move_follows, constant_follows, compute_follows}

pub law_of_computations : LawOfLine IsComputation
law_of_computations program l known first checked good a line rs callers z m (Do (operation.Move to from)) e kind r =
    move_follows program l (Known known) first checked good a line to from rs callers z m e r
law_of_computations program l known first checked good a line rs callers z m (Do (operation.Constant to word)) e kind r =
    constant_follows program l (Known known) first checked good a line to word rs callers z m e r
law_of_computations program l known first checked good a line rs callers z m (Do (operation.Compute to which ra rb)) e kind r =
    compute_follows program l (Known known) first checked good a line to ra rb which rs callers z m e r
law_of_computations program l known first checked good a line rs callers z m x e kind r = absurd kind

pub law_of_choices : LawOfLine IsChoice
law_of_choices program l known first checked good a line rs callers z m (Branch test otherwise) e kind r =
    branch_follows program l (Known known) first good a line otherwise test rs callers z m e r
law_of_choices program l known first checked good a line rs callers z m (Switch v targets) e kind r =
    switch_follows program l (Known known) first good a line v targets rs callers z m e r
law_of_choices program l known first checked good a line rs callers z m (Jump to) e kind r =
    jump_follows program l (Known known) first good a line to rs callers z m e r
law_of_choices program l known first checked good a line rs callers z m x e kind r = absurd kind

pub law_of_ends : LawOfLine IsEnd
law_of_ends program l known first checked good a line rs callers z m (Return v) e kind r =
    return_follows program l (Known known) first good a line v rs callers z m e r
law_of_ends program l known first checked good a line rs callers z m (Halt v) e kind r =
    halt_follows program l (Known known) first good a line v rs callers z m e r
law_of_ends program l known first checked good a line rs callers z m (Unhandled class site condition) e kind r =
    unhandled_follows program l (Known known) first good a line class site condition rs callers z m e r
law_of_ends program l known first checked good a line rs callers z m x e kind r = absurd kind

pub law_of_calls : LawOfLine IsCall
law_of_calls program l known first checked good a line rs callers z m (Do (operation.Call to callee arguments)) e kind r =
    call_follows program l (Known known) first checked good a line to callee arguments rs callers z m e r
law_of_calls program l known first checked good a line rs callers z m x e kind r = absurd kind

pub law_of_accesses : LawOfLine IsAccess
law_of_accesses program l known first checked good a line rs callers z m (Do (operation.Load to base offset)) e kind r =
    load_follows program l (Known known) first checked good a line to base offset rs callers z m e r
law_of_accesses program l known first checked good a line rs callers z m (Do (operation.Store from base offset)) e kind r =
    store_follows program l (Known known) first checked good a line from base offset rs callers z m e r
law_of_accesses program l known first checked good a line rs callers z m x e kind r = absurd kind

pub law_of_given_back : LawOfLine IsGivenBack
law_of_given_back program l known first checked good a line rs callers z m (GiveBack words) e kind r =
    give_back_follows program l (Known known) first good a line words rs callers z m e r
law_of_given_back program l known first checked good a line rs callers z m GiveBackLent e kind r =
    give_back_lent_follows program l (Known known) first good a line rs callers z m e r
law_of_given_back program l known first checked good a line rs callers z m x e kind r = absurd kind

pub law_of_puts : LawOfLine IsPut
law_of_puts program l known first checked good a line rs callers z m (Do (operation.Put v)) e kind r =
    put_follows program l (Known known) first good a line v rs callers z m e r
law_of_puts program l known first checked good a line rs callers z m x e kind r = absurd kind

pub law_of_landings : LawOfLine IsLanding
law_of_landings program l known first checked good a line rs callers z m (Landed v) e kind r =
    nothing program l (Known known) first good (running a line rs callers z) m z (at_line program l (Known known) first good a line rs callers z (Landed v) e) (omega arith)
law_of_landings program l known first checked good a line rs callers z m x e kind r = absurd kind

-- A primitive is applied as its kind is.
use Rattle.std.proofs.Common.{◌≡◌, ℕ, ◌+◌, List, refl}
use Rattle.lang_meaning.specs.declared.primitive.Primitive.{Primitive}
use Rattle.lang_meaning.specs.declared.primitive.Primitive.TheVariants as primitive
use Rattle.lang_meaning.specs.declared.program.LiteralRow.{LiteralRow}
use Rattle.flat_language.specs.FlatForm.{FlatForms}
use Rattle.back_lowering.specs.declared.scope.SitePlace.{SitePlace}
use Rattle.back_lowering.specs.declared.placement.Placement.{Placement}
use Rattle.back_lowering.specs.Primitives.{apply_primitive, judge_primitive, by_procedure}
use Rattle.back_leaves.specs.Quick.{quick_of, applied, judged}

pub applied_is : (at : Placement) (literals : List LiteralRow) (p : Primitive) (fs : FlatForms) (count d : ℕ) (site : SitePlace)
    → apply_primitive at literals p fs count d site ≡ applied at literals (quick_of p) fs d (d + count) (by_procedure at p count d site)
applied_is at literals primitive.Add fs count d site = refl
applied_is at literals primitive.Subtract fs count d site = refl
applied_is at literals primitive.Multiply fs count d site = refl
applied_is at literals primitive.Divide fs count d site = refl
applied_is at literals primitive.Modulo fs count d site = refl
applied_is at literals primitive.NumberEqual fs count d site = refl
applied_is at literals primitive.NumberNotEqual fs count d site = refl
applied_is at literals primitive.NumberLess fs count d site = refl
applied_is at literals primitive.NumberAtMost fs count d site = refl
applied_is at literals primitive.NumberGreater fs count d site = refl
applied_is at literals primitive.NumberAtLeast fs count d site = refl
applied_is at literals primitive.Same fs count d site = refl
applied_is at literals primitive.IsNull fs count d site = refl
applied_is at literals primitive.IsCons fs count d site = refl
applied_is at literals primitive.IsInteger fs count d site = refl
applied_is at literals primitive.IsSymbol fs count d site = refl
applied_is at literals primitive.IsCharacter fs count d site = refl
applied_is at literals primitive.IsString fs count d site = refl
applied_is at literals primitive.IsVector fs count d site = refl
applied_is at literals primitive.IsFunction fs count d site = refl
applied_is at literals primitive.IsGeneric fs count d site = refl
applied_is at literals primitive.Cons fs count d site = refl
applied_is at literals primitive.Car fs count d site = refl
applied_is at literals primitive.Cdr fs count d site = refl
applied_is at literals primitive.SetCar fs count d site = refl
applied_is at literals primitive.SetCdr fs count d site = refl
applied_is at literals primitive.MakeString fs count d site = refl
applied_is at literals primitive.MakeVector fs count d site = refl
applied_is at literals primitive.StringLength fs count d site = refl
applied_is at literals primitive.VectorLength fs count d site = refl
applied_is at literals primitive.CharAt fs count d site = refl
applied_is at literals primitive.VectorRef fs count d site = refl
applied_is at literals primitive.SetCharAt fs count d site = refl
applied_is at literals primitive.SetVectorRef fs count d site = refl
applied_is at literals primitive.CharCode fs count d site = refl
applied_is at literals primitive.CodeChar fs count d site = refl
applied_is at literals primitive.SymbolName fs count d site = refl
applied_is at literals primitive.SymbolSerial fs count d site = refl
applied_is at literals primitive.Gensym fs count d site = refl
applied_is at literals primitive.ClassOf fs count d site = refl
applied_is at literals primitive.ClassName fs count d site = refl
applied_is at literals primitive.IsSubclass fs count d site = refl
applied_is at literals primitive.IsInstance fs count d site = refl
applied_is at literals primitive.Allocate fs count d site = refl
applied_is at literals primitive.SlotCount fs count d site = refl
applied_is at literals primitive.SlotPlace fs count d site = refl
applied_is at literals primitive.SlotRef fs count d site = refl
applied_is at literals primitive.SlotSet fs count d site = refl
applied_is at literals primitive.SlotBound fs count d site = refl
applied_is at literals primitive.SlotInitargs fs count d site = refl
applied_is at literals primitive.SlotInitform fs count d site = refl
applied_is at literals primitive.Continuable fs count d site = refl
applied_is at literals primitive.StandardInput fs count d site = refl
applied_is at literals primitive.StandardOutput fs count d site = refl
applied_is at literals primitive.PutChar fs count d site = refl
applied_is at literals primitive.IsFreshLine fs count d site = refl
applied_is at literals primitive.GetByte fs count d site = refl
applied_is at literals primitive.PeekByte fs count d site = refl

pub judged_is : (at : Placement) (literals : List LiteralRow) (p : Primitive) (fs : FlatForms) (count d : ℕ) (site : SitePlace)
    → judge_primitive at literals p fs count d site ≡ judged at literals (quick_of p) fs d (d + count) (by_procedure at p count d site)
judged_is at literals primitive.Add fs count d site = refl
judged_is at literals primitive.Subtract fs count d site = refl
judged_is at literals primitive.Multiply fs count d site = refl
judged_is at literals primitive.Divide fs count d site = refl
judged_is at literals primitive.Modulo fs count d site = refl
judged_is at literals primitive.NumberEqual fs count d site = refl
judged_is at literals primitive.NumberNotEqual fs count d site = refl
judged_is at literals primitive.NumberLess fs count d site = refl
judged_is at literals primitive.NumberAtMost fs count d site = refl
judged_is at literals primitive.NumberGreater fs count d site = refl
judged_is at literals primitive.NumberAtLeast fs count d site = refl
judged_is at literals primitive.Same fs count d site = refl
judged_is at literals primitive.IsNull fs count d site = refl
judged_is at literals primitive.IsCons fs count d site = refl
judged_is at literals primitive.IsInteger fs count d site = refl
judged_is at literals primitive.IsSymbol fs count d site = refl
judged_is at literals primitive.IsCharacter fs count d site = refl
judged_is at literals primitive.IsString fs count d site = refl
judged_is at literals primitive.IsVector fs count d site = refl
judged_is at literals primitive.IsFunction fs count d site = refl
judged_is at literals primitive.IsGeneric fs count d site = refl
judged_is at literals primitive.Cons fs count d site = refl
judged_is at literals primitive.Car fs count d site = refl
judged_is at literals primitive.Cdr fs count d site = refl
judged_is at literals primitive.SetCar fs count d site = refl
judged_is at literals primitive.SetCdr fs count d site = refl
judged_is at literals primitive.MakeString fs count d site = refl
judged_is at literals primitive.MakeVector fs count d site = refl
judged_is at literals primitive.StringLength fs count d site = refl
judged_is at literals primitive.VectorLength fs count d site = refl
judged_is at literals primitive.CharAt fs count d site = refl
judged_is at literals primitive.VectorRef fs count d site = refl
judged_is at literals primitive.SetCharAt fs count d site = refl
judged_is at literals primitive.SetVectorRef fs count d site = refl
judged_is at literals primitive.CharCode fs count d site = refl
judged_is at literals primitive.CodeChar fs count d site = refl
judged_is at literals primitive.SymbolName fs count d site = refl
judged_is at literals primitive.SymbolSerial fs count d site = refl
judged_is at literals primitive.Gensym fs count d site = refl
judged_is at literals primitive.ClassOf fs count d site = refl
judged_is at literals primitive.ClassName fs count d site = refl
judged_is at literals primitive.IsSubclass fs count d site = refl
judged_is at literals primitive.IsInstance fs count d site = refl
judged_is at literals primitive.Allocate fs count d site = refl
judged_is at literals primitive.SlotCount fs count d site = refl
judged_is at literals primitive.SlotPlace fs count d site = refl
judged_is at literals primitive.SlotRef fs count d site = refl
judged_is at literals primitive.SlotSet fs count d site = refl
judged_is at literals primitive.SlotBound fs count d site = refl
judged_is at literals primitive.SlotInitargs fs count d site = refl
judged_is at literals primitive.SlotInitform fs count d site = refl
judged_is at literals primitive.Continuable fs count d site = refl
judged_is at literals primitive.StandardInput fs count d site = refl
judged_is at literals primitive.StandardOutput fs count d site = refl
judged_is at literals primitive.PutChar fs count d site = refl
judged_is at literals primitive.IsFreshLine fs count d site = refl
judged_is at literals primitive.GetByte fs count d site = refl
judged_is at literals primitive.PeekByte fs count d site = refl

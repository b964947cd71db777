-- What is told of a list of reasons, one part of the list after the other.
use Rattle.std.proofs.Common.{◌≡◌, List, [], ◌∷◌, ◌++◌, Some, Result, Ok, Err, sym, subst, slice_get}
use Rattle.rio_host.specs.Host.{View}
use Rattle.rio_state.specs.Reasons.{ReasonAt, reason_at}
use Rattle.rio_recover.specs.Causes.{CallsNoHost, IsRecoverCause, Judges, Obtains}
use Rattle.rio_recover.specs.declared.fault.RecoverFault.{RecoverFault, TheVariants.{BadFile, ReadOnly, NoMemory, HostFault}}

-- ---- reasons

pub first_in : (xs ys : List ReasonAt) (r : ReasonAt) → slice_get xs 0 ≡ Some r → slice_get (xs ++ ys) 0 ≡ Some r
first_in [] ys r e = absurd cc
first_in (x ∷ xs) ys r e = e

-- a fault that is passed on
pub judges_on : {X Y : Type 0} (e : RecoverFault) (xs ys : List ReasonAt) (P : X → Type 0) (Q : Y → Type 0) → Judges (Err e) xs P → Judges (Err e) (xs ++ ys) Q
judges_on (BadFile place kind) xs ys P Q j = j
judges_on (ReadOnly place reason) xs ys P Q j = first_in xs ys (reason_at place reason) j
judges_on NoMemory xs ys P Q j = tt
judges_on HostFault xs ys P Q j = tt

-- the same fault, whatever is asked for
pub judges_again : {X Y : Type 0} (e : RecoverFault) (xs : List ReasonAt) (P : X → Type 0) (Q : Y → Type 0) → Judges (Err e) xs P → Judges (Err e) xs Q
judges_again (BadFile place kind) xs P Q j = j
judges_again (ReadOnly place reason) xs P Q j = j
judges_again NoMemory xs P Q j = tt
judges_again HostFault xs P Q j = tt

-- behind a part without reasons
pub judges_behind : {X : Type 0} (r : Result X RecoverFault) (xs ys : List ReasonAt) (P : X → Type 0) → xs ≡ [] → Judges r ys P → Judges r (xs ++ ys) P
judges_behind r xs ys P none j = subst (λ (zs : List ReasonAt). Judges r (zs ++ ys) P) (sym none) j

pub judges_same : {X : Type 0} (r : Result X RecoverFault) (xs ys : List ReasonAt) (P : X → Type 0) → xs ≡ ys → Judges r xs P → Judges r ys P
judges_same r xs ys P e j = subst (λ (zs : List ReasonAt). Judges r zs P) e j

-- ---- answers without a reason

pub obtains_on : {X Y : Type 0} (e : RecoverFault) (P : X → Type 0) (Q : Y → Type 0) → Obtains (Err e) P → Obtains (Err e) Q
obtains_on (BadFile place kind) P Q o = o
obtains_on (ReadOnly place reason) P Q o = o
obtains_on NoMemory P Q o = tt
obtains_on HostFault P Q o = tt

pub obtains_judged : {X Y : Type 0} (e : RecoverFault) (xs : List ReasonAt) (P : X → Type 0) (Q : Y → Type 0) → Obtains (Err e) P → Judges (Err e) xs Q
obtains_judged (BadFile place kind) xs P Q o = o
obtains_judged (ReadOnly place reason) xs P Q o = absurd o
obtains_judged NoMemory xs P Q o = tt
obtains_judged HostFault xs P Q o = tt

-- ---- faults of a walk

-- ---- causes

-- the answer of a call behind it that calls no host
pub cause_alone : {X : Type 0} (a b : View) (r : Result X RecoverFault) → b.disk_faults ≡ a.disk_faults → CallsNoHost r → IsRecoverCause a b r
cause_alone a b (Ok x) e h = e
cause_alone a b (Err (BadFile place kind)) e h = absurd h
cause_alone a b (Err (ReadOnly place reason)) e h = e
cause_alone a b (Err NoMemory) e h = e
cause_alone a b (Err HostFault) e h = absurd h

-- and of one whose fault is passed on
pub cause_alone_on : (X Y : Type 0) (a b : View) (e : RecoverFault) → b.disk_faults ≡ a.disk_faults → CallsNoHost {X = X} (Err e) → IsRecoverCause {X = Y} a b (Err e)
cause_alone_on X Y a b (BadFile place kind) e h = absurd h
cause_alone_on X Y a b (ReadOnly place reason) e h = e
cause_alone_on X Y a b NoMemory e h = e
cause_alone_on X Y a b HostFault e h = absurd h

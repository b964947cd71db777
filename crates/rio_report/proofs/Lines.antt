-- What is said of a file that is closed is its listing.
use Rattle.std.proofs.Common.{◌≡◌, ℕ, List, Option, Result, Ok, Err, IsOk, IsOkAnd, refl, sym, ap, subst}
use Rattle.rio_host.specs.Host.{Becomes, Longer}
use Rattle.rio_num.specs.Reading.{◌>>=◌}
use Rattle.rio_head.specs.declared.fault.HeadFault.{HeadFault}
use Rattle.rio_dir.specs.{declared.closed.Closed.{Closed}, Closed.{closed_file}, Listing.{key_lines, listed_file, said_listing}}

abbrev listed_by : Result Closed HeadFault → Result (List ℕ) HeadFault
listed_by read = read >>= λ closed. Ok (key_lines closed.keys)

pub listed_is : (file : List ℕ) (closed : Closed) → closed_file file ≡ Ok closed → listed_file file ≡ Ok (key_lines closed.keys)
unfolding listed_file
listed_is file closed is = ap listed_by is

pub listed_bad : (file : List ℕ) (fault : HeadFault) → closed_file file ≡ Err fault → listed_file file ≡ Err fault
unfolding listed_file
listed_bad file fault is = ap listed_by is

pub listed_text : (file : List ℕ) (closed : Closed) → closed_file file ≡ Ok closed → key_lines closed.keys ≡ said_listing (listed_file file)
listed_text file closed is = sym (ap said_listing (listed_is file closed is))

pub listed_ok : (file : List ℕ) (closed : Closed) → closed_file file ≡ Ok closed → IsOk (listed_file file)
listed_ok file closed is = rw (listed_is file closed is) refl

-- where all lines were said, behind calls that say nothing
pub listed_said : (file : List ℕ) (closed : Closed) (a b c : Option (List ℕ)) (text : List ℕ) → closed_file file ≡ Ok closed → b ≡ a → text ≡ key_lines closed.keys → Becomes (Longer text) b c → IsOkAnd (listed_file file) (λ all. Becomes (Longer all) a c)
listed_said file closed a b c text read same is says =
    rw (listed_is file closed read) (subst (λ (t : List ℕ). Becomes (Longer t) a c) is (subst (λ (o : Option (List ℕ)). Becomes (Longer text) o c) same says))

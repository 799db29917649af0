-- A shelf in memory, as its callers see it. Own to this project.
use Rattle.std.specs.Prelude.{◌≡◌, ℕ, ◌⊎◌, List, Option, option_map, Contains, IsNone}
use Rattle.std.specs.String.{string_bytes}
use Rattle.std.specs.BTreeMap.{get_by_text}
use Rattle.diag_base.specs.Shelf.{Files}
use Rattle.diag_base.specs.declared.mem_shelf.MemShelf.{MemShelf}

-- the bytes that were set last under each name
abbrev pub files_of : MemShelf → Files
files_of shelf name = get_by_text shelf.files name

-- the numbers of the fetches that are to fail
abbrev pub failing_of : MemShelf → List ℕ
failing_of shelf = shelf.failing.items

-- how many fetches there were
abbrev pub calls_of : MemShelf → ℕ
calls_of shelf = shelf.calls

-- how many of them failed
abbrev pub faults_of : MemShelf → ℕ
faults_of shelf = shelf.faults

-- the name of the last that failed
abbrev pub lost_of : MemShelf → Option (List ℕ)
lost_of shelf = option_map string_bytes shelf.lost

-- the next fetch is to fail, or its name isn't there
abbrev pub MustFail : MemShelf → List ℕ → Type 0
MustFail shelf name = Contains (failing_of shelf) (calls_of shelf) ⊎ IsNone (files_of shelf name)

-- all but the files is as it was
pub record KeepsPlan (before now : MemShelf) : Type 0 where
  pub failing : failing_of now ≡ failing_of before
  pub calls : calls_of now ≡ calls_of before
  pub faults : faults_of now ≡ faults_of before
  pub lost : lost_of now ≡ lost_of before

-- What a read tells, and what a shelf has read.
use Rattle.std.specs.Prelude.{◌≡◌, ℕ, ◌≤◌, List, [], ◌∷◌, ◌++◌, Option, Some, None, Result, Ok, Err, ⊤, IsSomeAnd, Vec, length, map, option_map, string_bytes}
use Rattle.std.specs.Global.{Global}
use Rattle.edge_io.specs.Faults.{one_more}
use Rattle.edge_io.specs.Limits.{file_limit}
use Rattle.edge_io.specs.declared.readings.Readings.{Readings}
use Rattle.edge_io.specs.declared.shelf.ReadFail.{ReadFail}
use Rattle.edge_io.specs.declared.shelf.ReadFail.TheVariants.{Failed, OutOfMemory}

-- what is told of the files, if anything, has these bytes at the name
abbrev pub Tells : Option (List ℕ → Option (List ℕ)) → List ℕ → List ℕ → Type 0
Tells None name bytes = ⊤
Tells (Some files) name bytes = files name ≡ Some bytes

-- a file that was opened at the name has its bytes left, where they are told
abbrev pub IsFileOf : Option (List ℕ → Option (List ℕ)) → List ℕ → Option (List ℕ) → Type 0
IsFileOf None name left = ⊤
IsFileOf (Some files) name left = IsSomeAnd left (λ bytes. files name ≡ Some bytes)

-- what files hold
abbrev pub held : List (Vec ℕ Global) → List (List ℕ)
held files = map (λ (file : Vec ℕ Global). file.items) files

-- What a shelf has read. A counter that is at its last value stays at it.
pub record ReadingsValue : Type 0 where
  -- the names of the files that were read, in the order of the reads
  pub names : List (List ℕ)
  -- their contents, in the same order
  pub contents : List (List ℕ)
  -- how many reads there were, whatever they answered
  pub calls : ℕ
  -- how many reads failed
  pub faults : ℕ
  -- the name of the read that failed last
  pub failed : Option (List ℕ)
  -- how many reads there were once it had failed
  pub failed_call : ℕ

abbrev pub readings_seen : Readings → ReadingsValue
readings_seen kept = record {
  names = map string_bytes kept.names.items;
  contents = held kept.contents.items;
  calls = kept.calls;
  faults = kept.faults;
  failed = option_map string_bytes kept.failed;
  failed_call = kept.failed_call;
}

-- no read so far
abbrev pub no_readings : ReadingsValue
no_readings = record {
  names = [];
  contents = [];
  calls = 0;
  faults = 0;
  failed = None;
  failed_call = 0;
}

-- One content more was read, by this name, and both are kept behind those before: the content that is told of the name,
-- where one is. It is no longer than a file may be.
pub record Gains (told : Option (List ℕ → Option (List ℕ))) (name : List ℕ)
    (before after : ReadingsValue) : Type 0 where
  pub bytes : List ℕ
  pub is_told : Tells told name bytes
  pub within_limit : length bytes ≤ file_limit
  pub kept : after ≡ record before {
    names = before.names ++ name ∷ [];
    contents = before.contents ++ bytes ∷ [];
    calls = one_more before.calls;
  }

-- One read more was made, by this name, with this answer: a file is kept, and a failure is counted, named and numbered.
abbrev pub AddsRead : {T : Type 0} → Option (List ℕ → Option (List ℕ)) → List ℕ → (before after : ReadingsValue)
    → Result T ReadFail → Type 0
AddsRead told name before after (Ok v) = Gains told name before after
AddsRead told name before after (Err Failed) = after ≡ record before {
  calls = one_more before.calls;
  faults = one_more before.faults;
  failed = Some name;
  failed_call = one_more before.calls;
}
AddsRead told name before after (Err OutOfMemory) = after ≡ record before { calls = one_more before.calls }

-- the fact holds where the read failed for another cause than want of memory
abbrev pub OnFailed : {T : Type 0} → Result T ReadFail → Type 0 → Type 0
OnFailed (Ok v) P = ⊤
OnFailed (Err Failed) P = P
OnFailed (Err OutOfMemory) P = ⊤

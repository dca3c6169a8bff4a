-- The first fault of a manifest, and what it says if it has none.
use Rattle.std.specs.Prelude.{ℕ, zero, suc, List, [], ◌∷◌, Option, Some, None, Result, Ok, Err, nat_lt, nat_le, if◌then◌else◌, codes}
use Rattle.std.specs.List.{filter_map}
use Rattle.std.specs.Option.{ok_or, option_and_then, option_map, option_or}
use Rattle.std.specs.Result.{result_err, result_ok, result_unwrap_or}
use Rattle.aegis_limits.specs.Limits.{least_pages, least_quantum, most_quantum}
use Rattle.aegis_limits.specs.VersionLimits.{most_pages_of, most_environments_of}
use Rattle.aegis_limits.specs.declared.version.Version.{Version}
use Rattle.aegis_limits.specs.declared.version.Version.TheVariants.{One}
use Rattle.line_text.specs.declared.failure.LineFault.{LineFault}
use Rattle.line_text.specs.Failing.{fault_at}
use Rattle.line_text.specs.Lines.{LineValue, lines_of}
use Rattle.line_text.specs.Number.{number_within}
use Rattle.line_text.specs.Outcome.{◌>>=◌}
use Rattle.line_text.specs.Statements.{end_of, statements_of}
use Rattle.line_text.specs.Words.{line_words}
use Rattle.boot_manifest.specs.declared.fault.ManifestWhy.{ManifestWhy}
use Rattle.boot_manifest.specs.declared.fault.ManifestWhy.TheVariants.{Syntax, Range, Many}
use Rattle.boot_manifest.specs.Forms.{count_form, env_form, slots_form}
use Rattle.boot_manifest.specs.Ranges.{entry_in, manifest_version, owners_in}
use Rattle.boot_manifest.specs.ManifestValue.{ManifestEntryValue, ManifestValue}

-- what a line says by its form and its ranges
abbrev pub said : {W X : Type 0} → (List (List ℕ) → Option W) → (W → Option X) → List ℕ → Result X ManifestWhy
said form range text = do
  words ← ok_or (option_and_then form (line_words text)) Syntax
  ok_or (range words) Range

-- `version N`
abbrev pub version_said : List ℕ → Result Version ManifestWhy
version_said text = said (count_form (codes "version")) manifest_version text

-- `pages N` and `quantum N`
abbrev pub count_said : List ℕ → ℕ → ℕ → List ℕ → Result ℕ ManifestWhy
count_said key least most text = said (count_form key) (number_within least most) text

abbrev pub pages_said : Version → List ℕ → Result ℕ ManifestWhy
pages_said version text = count_said (codes "pages") least_pages (most_pages_of version) text

abbrev pub quantum_said : List ℕ → Result ℕ ManifestWhy
quantum_said text = count_said (codes "quantum") least_quantum most_quantum text

-- `slots X ..`
abbrev pub slots_said : Version → List ℕ → Result (List (Option ℕ)) ManifestWhy
slots_said version text = said slots_form (owners_in version) text

-- `env ..`
abbrev pub entry_said : List ℕ → Result ManifestEntryValue ManifestWhy
entry_said text = said env_form entry_in text

-- the entries that lines say
abbrev pub entries_said : List LineValue → List ManifestEntryValue
entries_said lines = filter_map (λ (line : LineValue). result_ok (entry_said line.text)) lines

-- the fault of an environment's line which those of so many others stand before
abbrev pub env_fault : Version → ℕ → List ℕ → Option ManifestWhy
env_fault version others text =
    option_or (result_err (entry_said text)) (if nat_le (most_environments_of version) others then Some Many else None)

-- a manifest's version, and the lines behind the one that says it
pub record VersionLines : Type 0 where
  pub version : Version
  pub lines : List LineValue

-- The first line may say the version. One of another form is the next part's, and the version is then 1.
abbrev pub with_version : LineValue → List LineValue → Result Version ManifestWhy
    → Result VersionLines (LineFault ManifestWhy)
with_version line lines (Ok version) = Ok (record { version = version; lines = lines })
with_version line lines (Err Range) = Err (fault_at line.number Range)
with_version line lines (Err other) = Ok (record { version = One; lines = line ∷ lines })

abbrev pub version_lines : List LineValue → Result VersionLines (LineFault ManifestWhy)
version_lines [] = Ok (record { version = One; lines = [] })
version_lines (line ∷ lines) = with_version line lines (version_said line.text)

-- the fault of the line which so many others stand before: pages, quantum, slots, environments
abbrev pub line_fault : Version → ℕ → List ℕ → Option ManifestWhy
line_fault version zero text = result_err (pages_said version text)
line_fault version (suc zero) text = result_err (quantum_said text)
line_fault version (suc (suc zero)) text = result_err (slots_said version text)
line_fault version (suc (suc (suc others))) text = env_fault version others text

-- The first fault of the lines which so many others stand before, that of the version not counted. A text that ends
-- before its first environment's line has its fault at its end.
abbrev pub lines_fault : Version → ℕ → ℕ → List LineValue → Option (LineFault ManifestWhy)
lines_fault version end others [] = if nat_lt others 4 then Some (fault_at end Syntax) else None
lines_fault version end others (line ∷ lines) =
    option_or (option_map (fault_at line.number) (line_fault version others line.text))
    (lines_fault version end (suc others) lines)

-- the fault of lines behind that of the version, or of that line
abbrev pub fault_behind : ℕ → Result VersionLines (LineFault ManifestWhy) → Option (LineFault ManifestWhy)
fault_behind end (Ok manifest) = lines_fault manifest.version end 0 manifest.lines
fault_behind end (Err fault) = Some fault

-- the first fault of a manifest
unfoldable pub manifest_fault : List ℕ → Option (LineFault ManifestWhy)
manifest_fault text = fault_behind (end_of text) (version_lines (statements_of (lines_of text)))

-- what lines say: pages, quantum, slots, environments
abbrev pub manifest_from : Version → List LineValue → ManifestValue
manifest_from version (pages ∷ quantum ∷ slots ∷ envs) = record {
  version = version;
  pages = result_unwrap_or (pages_said version pages.text) 0;
  quantum = result_unwrap_or (quantum_said quantum.text) 0;
  slots = result_unwrap_or (slots_said version slots.text) [];
  entries = entries_said envs;
}
manifest_from version lines = record { version = version; pages = 0; quantum = 0; slots = []; entries = [] }

-- what lines behind that of the version say
abbrev pub manifest_behind : Result VersionLines (LineFault ManifestWhy) → ManifestValue
manifest_behind (Ok manifest) = manifest_from manifest.version manifest.lines
manifest_behind (Err fault) = manifest_from One []

-- What a manifest says. It is meant where manifest_fault finds nothing.
unfoldable pub manifest_of : List ℕ → ManifestValue
manifest_of text = manifest_behind (version_lines (statements_of (lines_of text)))

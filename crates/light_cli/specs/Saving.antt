-- How a file is saved.
use Rattle.std.specs.Prelude.{◌≡◌, ◌≢◌, ℕ, List, codes, decimal, ◌++◌, Bool, true, false, if◌then◌else◌, Result, Ok, Err}
use Rattle.std.specs.Fs.{file_type, IsFile}
use Rattle.std.specs.IoError.{error_kind}
use Rattle.std.specs.Path.{path_with_file_name}
use Rattle.std.specs.declared.fs.attrs.Metadata.{Metadata}
use Rattle.std.specs.declared.io.Error.{Error}
use Rattle.std.specs.declared.io.ErrorKind.{ErrorKind}
use Rattle.std.specs.declared.io.ErrorKind.TheVariants.{NotFound, PermissionDenied, ReadOnlyFilesystem, ResourceBusy}
use Rattle.light_cli.specs.declared.saving.Way.{Way}
use Rattle.light_cli.specs.declared.saving.Way.TheVariants.{Create, Replace, Overwrite}
use Rattle.light_cli.specs.declared.saving.Unreplaced.{Unreplaced}
use Rattle.light_cli.specs.declared.saving.Unreplaced.TheVariants.{Barred, Failed}

-- which way a file is saved, by what is found under its name: a free name is created, a regular file replaced, and all else
-- written into
abbrev pub IsWay : Result Metadata Error → Way → Type 0
IsWay (Ok found) Create = ⊥
IsWay (Ok found) (Replace old) = IsFile (file_type found) × (old ≡ found)
IsWay (Ok found) Overwrite = IsFile (file_type found) → ⊥
IsWay (Err error) Create = error_kind error ≡ NotFound
IsWay (Err error) (Replace old) = ⊥
IsWay (Err error) Overwrite = error_kind error ≢ NotFound

-- the number-th name beside a file: another one in the same folder
abbrev pub name_beside : List ℕ → ℕ → List ℕ
name_beside name number = path_with_file_name name (codes "light-" ++ (decimal number ++ codes ".tmp"))

-- an error that tells that a file may be written, but not replaced: its folder or its file system bars it
abbrev pub is_bar : ErrorKind → Bool
is_bar PermissionDenied = true
is_bar ReadOnlyFilesystem = true
is_bar ResourceBusy = true
is_bar _ = false

-- why a file was not replaced, by the error
abbrev pub cause_of : Error → Unreplaced
cause_of error = if is_bar (error_kind error) then Barred else Failed

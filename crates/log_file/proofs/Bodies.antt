-- What stands behind the headers of a log, part by part.
use Rattle.std.proofs.Common.{◌≡◌, ℕ, ◌<◌, ◌≤◌, List, length, Result, Ok, Err, refl}
use Rattle.std.specs.Prelude.{slice_range}
use Rattle.std.proofs.lemmas.Bool.{lt-ltb, le-ltb}
use Rattle.light_base.specs.declared.tag.Tag.{Tag}
use Rattle.replay_model.specs.Logs.{ThreadLog, Log}
use Rattle.log_file.specs.Versions.{Version}
use Rattle.log_file.specs.LogFaults.{LogFault, fault}
use Rattle.log_file.specs.declared.log_fault.LogKind.TheVariants as kind
use Rattle.log_file.specs.LogReading.{Head, Header, reaches, last_tags_in, threads_in, steps_of, last_tags_place, entries_place, taken_place, log_end, body_in}

module _ (version : Version) (head : Head) (headers : List Header) (bytes : List ℕ) where
  abbrev last_tags_are : Result (List Tag) LogFault
  last_tags_are = last_tags_in (steps_of headers) bytes (last_tags_place version head) head.words

  abbrev threads_are : Result (List ThreadLog) LogFault
  threads_are = threads_in head.words headers bytes (entries_place version head) (taken_place version head headers)

  abbrev made : List Tag → List ThreadLog → Log
  made last_tags threads = record { digest = slice_range bytes 7 39; limits = head.limits; threads = threads; last_tags = last_tags }

  pub body_short : (f : LogFault) → reaches bytes (log_end version head headers) ≡ Err f → body_in version head headers bytes ≡ Err f
  unfolding body_in
  body_short f e = rw e refl

  module _ (u : Prim.Unit {0}) (there : reaches bytes (log_end version head headers) ≡ Ok u) where
    pub body_last_tags : (f : LogFault) → last_tags_are ≡ Err f → body_in version head headers bytes ≡ Err f
    unfolding body_in
    body_last_tags f e = rw (there, e) refl

    module _ (last_tags : List Tag) (tags : last_tags_are ≡ Ok last_tags) where
      pub body_threads : (f : LogFault) → threads_are ≡ Err f → body_in version head headers bytes ≡ Err f
      unfolding body_in
      body_threads f e = rw (there, tags, e) refl

      module _ (threads : List ThreadLog) (logs : threads_are ≡ Ok threads) where
        pub body_long : log_end version head headers < length bytes → body_in version head headers bytes ≡ Err (fault kind.Long (log_end version head headers))
        unfolding body_in
        body_long lt = rw (there, tags, logs, lt-ltb (log_end version head headers) (length bytes) lt) refl

        pub body_is : length bytes ≤ log_end version head headers → body_in version head headers bytes ≡ Ok (made last_tags threads)
        unfolding body_in
        body_is le = rw (there, tags, logs, le-ltb (log_end version head headers) (length bytes) le) refl

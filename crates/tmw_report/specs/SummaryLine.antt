-- The line of the counts: compact JSON with its keys in byte order, and a line feed.
use Rattle.tmw_report.specs.Shared.{decimal}
use Rattle.std.specs.Prelude.{ℕ, List, ◌++◌, codes}
use Rattle.serde_json.specs.Data.{Data, Members, member, no_members, number, object, unsigned}
use Rattle.tmw_defs.specs.declared.counts.Counts.{Counts}

abbrev pub summary_text : Counts → List ℕ
summary_text counts =
    codes "{\"aborted\":" ++ (decimal counts.aborted
    ++ (codes ",\"committed\":" ++ (decimal counts.committed
    ++ (codes ",\"concurrent\":" ++ (decimal counts.overlapping
    ++ (codes ",\"cuts\":" ++ (decimal counts.cuts
    ++ (codes ",\"forced_aborts\":" ++ (decimal counts.unasked
    ++ (codes ",\"live\":" ++ (decimal counts.live
    ++ (codes ",\"max_window\":" ++ (decimal counts.widest
    ++ (codes ",\"transactions\":" ++ (decimal counts.transactions ++ codes "}\n")))))))))))))))

-- a member whose value is a number, and those behind it
abbrev pub counted : List ℕ → ℕ → Members → Members
counted key value rest = member key (number (unsigned value)) rest

-- the object of which the line is the compact text
abbrev pub summary_object : Counts → Data
summary_object counts = object (
    counted (codes "aborted") counts.aborted (
    counted (codes "committed") counts.committed (
    counted (codes "concurrent") counts.overlapping (
    counted (codes "cuts") counts.cuts (
    counted (codes "forced_aborts") counts.unasked (
    counted (codes "live") counts.live (
    counted (codes "max_window") counts.widest (
    counted (codes "transactions") counts.transactions no_members))))))))

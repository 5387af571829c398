-- The text of the page of a script.
use Rattle.std.specs.Prelude.{◌≡◌, ℕ, List}
use Rattle.caa_base.specs.declared.written.entry.Entry.{Entry}
use Rattle.place_plan.specs.Plans.PlanValue.{Plan}
use Rattle.page_text.specs.Parts.{parts_text, page_text}
use Rattle.page_text.specs.declared.parts.Part.{Part}
use Rattle.journal_page.specs.Stances.{LinesOf}
use Rattle.journal_page.specs.Pages.{IsPage}

-- a page that shows these data and no journal
abbrev pub IsBarePage : List ℕ → Type 0
IsBarePage text = (parts : List Part) × (text ≡ page_text (parts_text parts))

-- a page that shows these entries as far as they may come by the rules, between some data on the script and some on how it stands
abbrev pub IsJournalPage : LinesOf → Plan → List Entry → List ℕ → Type 0
IsJournalPage lines plan entries text = (head : List Part) × (tail : List Part) × IsPage lines plan head tail entries text

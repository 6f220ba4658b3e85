-- A detail's answer, by what the search finds in its record.
mod DetailLaws

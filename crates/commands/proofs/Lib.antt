mod ReadingOn

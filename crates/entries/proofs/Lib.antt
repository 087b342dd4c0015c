-- `Entering`: an entry written and read field by field.
mod Entering

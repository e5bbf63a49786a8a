mod MeasureLaws
